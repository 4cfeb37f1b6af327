-- The lines of comparisons.
use Rattle.std.specs.Prelude.{ℕ, List, [], ◌∷◌, ◌++◌, codes, flat_map}
use Rattle.std.specs.Fmt.{decimal}
use Rattle.filter_check.specs.bpf_code.declared.machine.CallData.{CallData}
use Rattle.unit_inputs.specs.declared.command_answers.exit_status.ExitStatus.{ExitStatus}
use Rattle.unit_inputs.specs.declared.command_answers.exit_status.ExitStatus.TheVariants as status
use Rattle.filter_check.specs.declared.outcome.Outcome.{Outcome}
use Rattle.filter_check.specs.declared.outcome.Outcome.TheVariants.{Same, Differs}

-- how many paths a program has that decides every call alike
abbrev pub same_line : ℕ → List ℕ
same_line count = codes "same paths " ++ (decimal count ++ 10 ∷ [])

-- a space and a number
abbrev pub arg_text : ℕ → List ℕ
arg_text arg = 32 ∷ decimal arg

-- both answers
abbrev pub answers_text : ℕ → ℕ → List ℕ
answers_text theirs ours = codes " theirs " ++ (decimal theirs ++ (codes " ours " ++ (decimal ours ++ 10 ∷ [])))

-- the data of a call up to its arguments
abbrev pub call_text : CallData → List ℕ
call_text at = codes "differs nr " ++
    (decimal at.nr ++ (codes " arch " ++ (decimal at.arch ++ (codes " ip " ++ (decimal at.ip ++ codes " args")))))

-- the call data at which two programs answer otherwise, and both answers
abbrev pub differs_line : CallData → ℕ → ℕ → List ℕ
differs_line at theirs ours = call_text at ++ (flat_map arg_text at.args ++ answers_text theirs ours)

abbrev pub outcome_text : Outcome → List ℕ
outcome_text (Same count) = same_line count
outcome_text (Differs at theirs ours) = differs_line at theirs ours

-- how a run ends after this outcome
abbrev pub status_by : Outcome → ExitStatus
status_by (Same count) = status.Done
status_by (Differs at theirs ours) = status.Differs
