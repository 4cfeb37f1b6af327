-- The parts of a printed call, joined.
use Rattle.std.proofs.Common.{◌≡◌, ℕ, List, [], ◌∷◌, ◌++◌, map, refl, sym, ap, ◌∙◌, append_assoc, decimal}
use Rattle.std.specs.Prelude.{codes}
use Rattle.std.proofs.lemmas.Grind.{flat_map-append}
use Rattle.kernel_model.specs.call_table.Table.{Table}
use Rattle.kernel_model.specs.declared.kernel_calls.call.Call.{Call}
use Rattle.script_text.specs.Numbers.{without_last_zeros}
use Rattle.script_text.specs.Printed.{each_behind, each_number, front_words, argument_words, call_text, words_behind_pid}

pub number_words : (separator numbers : List ℕ) → each_number separator numbers ≡ each_behind separator (map decimal numbers)
number_words separator [] = refl
number_words separator (number ∷ numbers) = ap (λ rest. (separator ++ decimal number) ++ rest) (number_words separator numbers)

pub whole_text : (table : Table) (call : Call) (number : ℕ) (front pid behind whole args : List ℕ) → number ≡ call.pid
    → pid ≡ front ++ decimal number → behind ≡ pid ++ each_behind (codes " ") (front_words table call)
    → args ≡ without_last_zeros call.args → whole ≡ behind ++ each_number (codes " ") args → whole ≡ front ++ call_text table call
whole_text table call number front pid behind whole args is p b a w =
    let named = each_behind (codes " ") (front_words table call) in
    let written = each_behind (codes " ") (argument_words call.args) in
    let pid_is : pid ≡ front ++ decimal call.pid = p ∙ ap (λ n. front ++ decimal n) is in
    let args_are : each_number (codes " ") args ≡ written = ap (each_number (codes " ")) a ∙ number_words (codes " ") (without_last_zeros call.args) in
    let both : named ++ written ≡ each_behind (codes " ") (words_behind_pid table call) = sym (flat_map-append (λ word. codes " " ++ word) (front_words table call) (argument_words call.args)) in
    w ∙ ap (λ start. start ++ each_number (codes " ") args) (b ∙ ap (λ start. start ++ named) pid_is)
    ∙ ap (λ end. ((front ++ decimal call.pid) ++ named) ++ end) args_are
    ∙ append_assoc (front ++ decimal call.pid) named written ∙ append_assoc front (decimal call.pid) (named ++ written)
    ∙ ap (λ rest. front ++ (decimal call.pid ++ rest)) both
