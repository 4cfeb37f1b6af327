-- Programs that match the filters of settings, one for each.
use Rattle.std.proofs.Common.{◌≡◌, Some, List, [], ◌∷◌, ap, ◌∙◌, sym, length, arith}
use Rattle.std.specs.Prelude.{◌≤◌, ◌+◌}
use Rattle.std.specs.List.{AllByRecursion}
use Rattle.std.proofs.lemmas.List.Sums.{sum_by-cons}
use Rattle.kernel_laws.specs.bpf_code.declared.machine.Insn.{Insn}
use Rattle.kernel_laws.specs.bpf_code.Stack.{room_of}
use Rattle.kernel_laws.proofs.OfBpfCode.Stacks.{answer_is}
use Rattle.exec_settings.specs.call_rules.Action.{case_action, word_of}
use Rattle.exec_settings.specs.call_rules.Sizes.{most_insns}
use Rattle.kernel_laws.specs.call_table.Table as calls
use Rattle.exec_settings.specs.filter_settings.filter_rules.Costs.{most_room}
use Rattle.exec_settings.specs.AreSettings.{HasWantedRules}
use Rattle.exec_settings.specs.filter_settings.declared.filter_rules.installed.Filter.{Filter}
use Rattle.exec_settings.specs.filter_settings.declared.filter_rules.settings.FilterSettings.{FilterSettings}
use Rattle.kernel_laws.specs.FirstChoice.{Means}
use Rattle.launcher.specs.Alike.{AnswerAlike}
use Rattle.launcher.specs.Matching.{AreMatching, MatchingLaws}

pub means : (settings : FilterSettings) (table : calls.Table) (filters : List Filter) (stack : List (List Insn))
    → AllByRecursion (HasWantedRules settings table) filters
    → AllByRecursion (λ one. (found : calls.Abi) × (calls.abi_at table one.abi ≡ Some found)) filters → AreMatching filters stack
    → AllByRecursion (Means settings table) stack
means settings table [] [] wanted there m = tt
means settings table [] (code ∷ stack) wanted there m = absurd m
means settings table (one ∷ filters) [] wanted there m = tt
means settings table (one ∷ filters) (code ∷ stack) wanted there m =
    (record { filter = one.name; abi = one.abi; found = there.0.0; there = there.0.1; answers = λ input fit. answer_is code input (word_of (case_action one.rules input)) ((m.0).decides input fit) ∙ ap word_of (wanted.0 input) }, means settings table filters stack wanted.1 there.1 m.1)

pub room : (filters : List Filter) (stack : List (List Insn)) → AreMatching filters stack → room_of stack ≤ most_room filters
room [] [] m = omega arith
room [] (code ∷ stack) m = absurd m
room (one ∷ filters) [] m = absurd m
room (one ∷ filters) (code ∷ stack) m =
    let a = sum_by-cons (λ (c : List Insn). length c + 4) code stack in
    let b = sum_by-cons (λ (made : Filter). most_insns made.rules + 4) one filters in
    let more = room filters stack m.1 in
    let short = (m.0).short in
    omega arith

pub alike : (filters : List Filter) (one other : List (List Insn)) → AreMatching filters one → AreMatching filters other
    → AnswerAlike one other
alike [] [] [] m n = tt
alike [] [] (own ∷ other) m n = absurd n
alike [] (code ∷ one) other m n = absurd m
alike (f ∷ filters) [] other m n = absurd m
alike (f ∷ filters) (code ∷ one) [] m n = absurd n
alike (f ∷ filters) (code ∷ one) (own ∷ other) m n =
    ((λ input fit. answer_is code input (word_of (case_action f.rules input)) ((m.0).decides input fit) ∙ sym (answer_is own input (word_of (case_action f.rules input)) ((n.0).decides input fit))), alike filters one other m.1 n.1)

pub matching_laws : MatchingLaws
matching_laws = record { means = means; room = room; alike = alike }
