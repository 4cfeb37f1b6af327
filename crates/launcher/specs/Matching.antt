-- Programs that match the filters of settings, one for each.
use Rattle.std.specs.Prelude.{◌≡◌, ◌≤◌, Some, List, [], ◌∷◌, length}
use Rattle.std.specs.List.{AllByRecursion}
use Rattle.kernel_laws.specs.bpf_code.declared.machine.Insn.{Insn}
use Rattle.kernel_laws.specs.bpf_code.declared.machine.CallData.{CallData}
use Rattle.kernel_laws.specs.bpf_code.Meaning.{Answers, IsCallData}
use Rattle.kernel_laws.specs.bpf_code.Stack.{room_of}
use Rattle.exec_settings.specs.call_rules.Action.{case_action, word_of}
use Rattle.exec_settings.specs.call_rules.Sizes.{most_insns}
use Rattle.kernel_laws.specs.call_table.Table as calls
use Rattle.exec_settings.specs.AreSettings.{HasWantedRules}
use Rattle.exec_settings.specs.filter_settings.filter_rules.Costs.{most_room}
use Rattle.exec_settings.specs.filter_settings.declared.filter_rules.installed.Filter.{Filter}
use Rattle.exec_settings.specs.filter_settings.declared.filter_rules.settings.FilterSettings.{FilterSettings}
use Rattle.kernel_laws.specs.FirstChoice.{Means}
use Rattle.launcher.specs.Alike.{AnswerAlike}

-- the program decides every call as the rules of the filter, and is not longer than one of them may be
pub record IsMatch (one : Filter) (code : List Insn) : Type 0 where
  pub decides : (input : CallData) → IsCallData input → Answers code input (word_of (case_action one.rules input))
  pub short : length code ≤ most_insns one.rules

-- one program for each filter, in their order
abbrev pub AreMatching : List Filter → List (List Insn) → Type 0
AreMatching [] [] = Unit {0}
AreMatching (one ∷ filters) (code ∷ stack) = IsMatch one code × AreMatching filters stack
AreMatching filters stack = ⊥

-- programs that match mean what the settings say and take no more room than they may, and all lists that match answer alike
pub record MatchingLaws : Type 0 where
  pub means : (settings : FilterSettings) (table : calls.Table) (filters : List Filter) (stack : List (List Insn))
      → AllByRecursion (HasWantedRules settings table) filters
      → AllByRecursion (λ one. (found : calls.Abi) × (calls.abi_at table one.abi ≡ Some found)) filters → AreMatching filters stack
      → AllByRecursion (Means settings table) stack
  pub room : (filters : List Filter) (stack : List (List Insn)) → AreMatching filters stack → room_of stack ≤ most_room filters
  pub alike : (filters : List Filter) (one other : List (List Insn)) → AreMatching filters one → AreMatching filters other
      → AnswerAlike one other
