-- The result of comparing a program with wanted answers, such as the answers of a filter's rules.
use Rattle.std.specs.Prelude.{◌≡◌, ◌≢◌, ◌≤◌, ℕ, List, Option, Result, Ok, Err}
use Rattle.seccomp_compile.specs.bpf_code.declared.machine.Insn.{Insn}
use Rattle.seccomp_compile.specs.bpf_code.declared.machine.CallData.{CallData}
use Rattle.seccomp_compile.specs.bpf_code.Effects.{words_of}
use Rattle.seccomp_compile.specs.bpf_code.Meaning.{Answers, IsCallData}
use Rattle.seccomp_compile.specs.call_rules.declared.rules.RuleSet.{RuleSet}
use Rattle.seccomp_compile.specs.call_rules.Action.{case_action, word_of}
use Rattle.seccomp_compile.specs.Form.{AreOfForm}
use Rattle.filter_check.specs.filter_paths.Form.{IsFirstForeign}
use Rattle.filter_check.specs.filter_paths.Traces.{HasPaths, HasMorePaths}
use Rattle.filter_check.specs.declared.filter_paths.states.End.{End}
use Rattle.filter_check.specs.Order.{IsNotAfter}
use Rattle.filter_check.specs.Differing.{IsLeastFrom}
use Rattle.filter_check.specs.declared.differences.Difference.{Difference}
use Rattle.filter_check.specs.declared.outcome.Outcome.{Outcome}
use Rattle.filter_check.specs.declared.outcome.Outcome.TheVariants.{Same, Differs}
use Rattle.filter_check.specs.declared.outcome.CheckError.{CheckError}
use Rattle.filter_check.specs.declared.outcome.CheckError.TheVariants.{Form, TooManyPaths, Memory}

-- the greatest number of paths that are compared
abbrev pub most_paths : ℕ
most_paths = 16384

-- all codes have the form, and the program has this number of paths, which is not too large
pub record IsCompared (code : List Insn) (count : ℕ) : Type 0 where
  pub form : AreOfForm code
  pub paths : HasPaths code count
  pub few : count ≤ most_paths

-- the program gives the wanted answer for the data of every call
abbrev pub AnswersAs : List Insn → (CallData → ℕ) → Type 0
AnswersAs code wanted = (input : CallData) → IsCallData input → Answers code input (wanted input)

-- at these call data the program gives this answer, and another answer is wanted
pub record DiffersAt (code : List Insn) (wanted : CallData → ℕ) (input : CallData) (theirs ours : ℕ) : Type 0 where
  pub fits : IsCallData input
  pub answers : Answers code input theirs
  pub is_wanted : ours ≡ wanted input
  pub differ : theirs ≢ ours

-- these call data are the least at which they differ, by their sixteen words in order of their offsets
pub record IsLeastDifference (code : List Insn) (wanted : CallData → ℕ) (at : CallData) (theirs ours : ℕ) : Type 0 where
  pub differs : DiffersAt code wanted at theirs ours
  pub least : (input : CallData) (their own : ℕ) → DiffersAt code wanted input their own → IsNotAfter (words_of at) (words_of input)

-- The cases of a result: an instruction without the form; more paths than are compared; the program gives the wanted answer for
-- all call data; or the least data for which it does not. Memory can run out for any program.
pub data Finds (code : List Insn) (wanted : CallData → ℕ) : Result Outcome CheckError → Type 0 where
  foreign : (place : ℕ) → IsFirstForeign code place → Finds code wanted (Err (Form place))
  too_many : AreOfForm code → HasMorePaths code most_paths → Finds code wanted (Err TooManyPaths)
  same : (count : ℕ) → IsCompared code count → AnswersAs code wanted → Finds code wanted (Ok (Same count))
  differs : (count : ℕ) (at : CallData) (theirs ours : ℕ) → IsCompared code count → IsLeastDifference code wanted at theirs ours
      → Finds code wanted (Ok (Differs at theirs ours))
  memory : Finds code wanted (Err Memory)

-- except when memory runs out, the program and the wanted answers determine the result
abbrev pub OneFinding : Type 0
OneFinding = (code : List Insn) (wanted : CallData → ℕ) (one other : Result Outcome CheckError)
    → Finds code wanted one → Finds code wanted other → one ≢ Err Memory → other ≢ Err Memory → one ≡ other

-- the answers that the rules of a filter want: the words of their actions
abbrev pub wanted_by : RuleSet → CallData → ℕ
wanted_by rules input = word_of (case_action rules input)

-- the least data at which the rules want another answer than the ends have, by any program that answers as the rules want
abbrev pub IsLeastByRules : List End → RuleSet → Option Difference → Type 0
IsLeastByRules ends rules found = (ours : List Insn) × AnswersAs ours (wanted_by rules) × IsLeastFrom ends ours found
