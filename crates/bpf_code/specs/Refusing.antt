-- Some answers of programs refuse a call for good. Actions have the order KILL_PROCESS, KILL_THREAD, TRAP, ERRNO,
-- USER_NOTIF, TRACE, LOG, ALLOW. Numbers between LOG and ALLOW kill if they decide, but a newer LOG overrules them.
use Rattle.std.specs.Prelude.{◌≡◌, pos, ◌⊎◌, ℕ, ◌<ℤ◌, List, [], ◌∷◌, ◌++◌}
use Rattle.bpf_code.specs.declared.machine.Insn.{Insn}
use Rattle.bpf_code.specs.declared.machine.CallData.{CallData}
use Rattle.bpf_code.specs.declared.decision.Decision.TheVariants.{Pass}
use Rattle.linux_numbers.specs.Actions.{log}
use Rattle.bpf_code.specs.Stack.{action_of, decision_of, answers_of, decision_on}

-- the action is less than LOG, so no newer answer allows the call
abbrev pub IsFirm : ℕ → Type 0
IsFirm answer = action_of answer <ℤ pos log

-- the answer allows the call or refuses it for good
abbrev pub IsPlain : ℕ → Type 0
IsPlain answer = (decision_of answer ≡ Pass) ⊎ IsFirm answer

abbrev pub HasFirm : List ℕ → Type 0
HasFirm [] = ⊥
HasFirm (answer ∷ answers) = IsFirm answer ⊎ HasFirm answers

abbrev pub ArePlain : List ℕ → Type 0
ArePlain [] = Unit {0}
ArePlain (answer ∷ answers) = IsPlain answer × ArePlain answers

-- if older programs refuse a call by plain answers, it stays refused whatever newer programs answer
abbrev pub RefusalsStand : Type 0
RefusalsStand = (older newer : List (List Insn)) (input : CallData) → ArePlain (answers_of older input)
    → ¬ (decision_on older input ≡ Pass) → ¬ (decision_on (older ++ newer) input ≡ Pass)
