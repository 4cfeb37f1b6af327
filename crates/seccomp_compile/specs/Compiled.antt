-- The answers of a compiled program, and the number of instructions that they take.
use Rattle.std.specs.Prelude.{ℕ, ◌≤◌, List, length}
use Rattle.call_rules.specs.bpf_code.declared.machine.Insn.{Insn}
use Rattle.call_rules.specs.bpf_code.declared.machine.CallData.{CallData}
use Rattle.call_rules.specs.bpf_code.Meaning.{Answers, AnswersWithin, IsCallData}
use Rattle.call_rules.specs.declared.rules.CallRule.{CallRule}
use Rattle.call_rules.specs.declared.rules.RuleSet.{RuleSet}
use Rattle.call_rules.specs.Action.{case_action, word_of}
use Rattle.call_rules.specs.Sizes.{HaveFewTests}

-- the program's answer is the word of the rules' action, whatever the data of the call
abbrev pub Decides : List Insn → RuleSet → Type 0
Decides code rules = (input : CallData) → IsCallData input → Answers code input (word_of (case_action rules input))

-- it answers so after at most so many instructions, whatever the data of the call
abbrev pub DecidesWithin : ℕ → List Insn → RuleSet → Type 0
DecidesWithin limit code rules =
    (input : CallData) → IsCallData input → AnswersWithin limit code input (word_of (case_action rules input))

-- as many instructions as a program of rules with short cases makes at most for one call
abbrev pub longest_path : ℕ
longest_path = 96

-- what each call of a rule set that is compiled is
pub record CanCompileCall (call : CallRule) : Type 0 where
  pub cases : length call.cases ≤ 128
  pub tests : HaveFewTests call.cases
