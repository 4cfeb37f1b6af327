-- A name has a capability, and several names have a set.
use Rattle.std.proofs.Common.{◌≡◌, ℕ, ◌<◌, ◌≤◌, cond, ltb, List, [], get_or, Option, Some, None, refl, sym, ap, ◌∙◌, arith}
use Rattle.std.specs.Str.{bytes_eq}
use Rattle.std.specs.List.{position_or_len}
use Rattle.std.proofs.lemmas.Bool.{false_from_ne_true, lt-ltb}
use Rattle.std.proofs.lemmas.List.Quantifiers.{position-Some}
use Rattle.std.proofs.lemmas.List.Sums.{position_or_len_is}
use Rattle.cap_sets.specs.Names.{names, name_of, in_lower_case}
use Rattle.cap_sets.proofs.Naming.{distinct}
use Rattle.abs_path.proofs.Prefixes.{same_part, part_itself}
use Rattle.site_table.specs.Caps.{cap_of}

pub no_cap : (name : List ℕ) → ((k : ℕ) → k ≤ 40 → name_of k ≡ name → ⊥) → None ≡ cap_of name
unfolding name_of
no_cap name none = by (cap_of name) refl
  where
    by : (found : Option ℕ) → cap_of name ≡ found → None ≡ found
    by None e = refl
    by (Some k) e =
        let at = position-Some (λ known. bytes_eq known name) names k [] e in
        let below : k < 41 = at.0 in
        absurd (none k (omega arith) (same_part (get_or names k []) name at.1))

pub the_cap : (name : List ℕ) (number : ℕ) → number ≤ 40 → name_of number ≡ name → Some number ≡ cap_of name
unfolding name_of
the_cap name number small e =
    let place : position_or_len (λ known. bytes_eq known name) names ≡ number =
    position_or_len_is (λ known. bytes_eq known name) names number [] (omega arith)
    (λ k lt. false_from_ne_true (bytes_eq (get_or names k []) name) (λ t. let same : k ≡ number = distinct k number (omega arith) small (ap in_lower_case (same_part (get_or names k []) name t ∙ sym e)) in omega arith))
    (λ lt. part_itself (get_or names number []) name e) in
    let below : number < 41 = omega arith in
    sym (ap (λ n. cond (ltb n 41) (Some n) None) place ∙ ap (λ b. cond b (Some number) None) (lt-ltb number 41 below))
