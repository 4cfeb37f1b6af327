-- The capability of a name, in any case.
use Rattle.std.proofs.Common.{◌≡◌, ℕ, ◌<◌, ◌≤◌, cond, ltb, List, [], get_or, Option, Some, None, refl, sym, ap, ◌∙◌, arith}
use Rattle.std.specs.Prelude.{◌↔◌, IfSome}
use Rattle.std.specs.Str.{bytes_eq}
use Rattle.std.specs.List.{position_or_len}
use Rattle.std.proofs.lemmas.Bool.{false_from_ne_true, lt-ltb}
use Rattle.std.proofs.lemmas.List.Quantifiers.{position-Some}
use Rattle.std.proofs.lemmas.List.Sums.{position_or_len_is}
use Rattle.std.proofs.lemmas.Slice.Eq.{bytes_eq-Decides}
use Rattle.site_table.specs.cap_sets.Names.{names, name_of, in_lower_case}
use Rattle.site_table.proofs.OfCapSets.Naming.{distinct}
use Rattle.cred_settings.specs.CapNames.{cap_named}

no_cap : (word : List ℕ) → ((k : ℕ) → k ≤ 40 → in_lower_case (name_of k) ≡ in_lower_case word → ⊥) → None ≡ cap_named word
unfolding name_of cap_named
no_cap word none = by (cap_named word) refl
  where
    by : (found : Option ℕ) → cap_named word ≡ found → None ≡ found
    by None e = refl
    by (Some k) e =
        let at = position-Some (λ name. bytes_eq (in_lower_case name) (in_lower_case word)) names k [] e in
        let below : k < 41 = at.0 in
        absurd (none k (omega arith) ((bytes_eq-Decides (in_lower_case (get_or names k [])) (in_lower_case word)).0 at.1))

pub the_cap : (word : List ℕ) (number : ℕ) → number ≤ 40 → in_lower_case (name_of number) ≡ in_lower_case word
    → Some number ≡ cap_named word
unfolding name_of cap_named
the_cap word number small e =
    let place : position_or_len (λ name. bytes_eq (in_lower_case name) (in_lower_case word)) names ≡ number =
    position_or_len_is (λ name. bytes_eq (in_lower_case name) (in_lower_case word)) names number [] (omega arith)
    (λ k lt. false_from_ne_true (bytes_eq (in_lower_case (get_or names k [])) (in_lower_case word))
    (λ t. let same : k ≡ number = distinct k number (omega arith) small ((bytes_eq-Decides (in_lower_case (get_or names k [])) (in_lower_case word)).0 t ∙ sym e) in omega arith))
    (λ lt. (bytes_eq-Decides (in_lower_case (get_or names number [])) (in_lower_case word)).1 e) in
    let below : number < 41 = omega arith in
    sym (ap (λ n. cond (ltb n 41) (Some n) None) place ∙ ap (λ b. cond b (Some number) None) (lt-ltb number 41 below))

pub found_cap : (word : List ℕ) (found : Option ℕ) → IfSome found (λ number. number ≤ 40)
    → ((number : ℕ) → number ≤ 40 → (found ≡ Some number) ↔ (in_lower_case (name_of number) ≡ in_lower_case word)) → found ≡ cap_named word
found_cap word None small named = no_cap word (λ k h e. let there = (named k h).1 e in cc)
found_cap word (Some number) small named = the_cap word number small ((named number small).0 refl)
