-- A set is within another that has each of its capabilities, one by one.
use Rattle.std.proofs.Common.{◌≡◌, ℕ, zero, suc, Bool, true, false, cond, List, [], ◌∷◌, refl, ap, ◌∙◌, sym, subst, arith, eqb}
use Rattle.std.specs.Prelude.{filter, nat_le, ◌+◌, ◌<◌, ◌≤◌, ◌^◌, ◌||◌}
use Rattle.std.specs.List.{AllByRecursion, list_any}
use Rattle.std.proofs.lemmas.Bool.{eqb-true}
use Rattle.std.proofs.lemmas.Bool.Decides.{nat_tests}
use Rattle.exec_settings.specs.cap_sets.Sets.{has, all, none, union, IsWithin}
use Rattle.exec_settings.proofs.OfCapSets.Members.{has_all, has_none, has_union, same_sets}
use Rattle.kernel_laws.specs.kern_creds.declared.creds.Creds.{Creds}
use Rattle.kernel_laws.specs.Questions.{count_from}
use Rattle.launcher.proofs.Leading.{clash}

-- nothing adds nothing
pub none_union : (set : ℕ) → union none set ≡ set
none_union set = same_sets (union none set) set (λ k. has_union none set k ∙ ap (λ b. b || has set k) (has_none k))

pub counted_small : (from count : ℕ) → from + count ≤ 2 ^ 32 → AllByRecursion (λ n. n < 2 ^ 32) (count_from from count)
counted_small from zero le = tt
counted_small from (suc count) le = (omega arith, counted_small (from + 1) count (omega arith))

pub filter_keeps : (P : ℕ → Type 0) (p : ℕ → Bool) (xs : List ℕ) → AllByRecursion P xs → AllByRecursion P (filter p xs)
filter_keeps P p [] all' = tt
filter_keeps P p (x ∷ xs) all' = by (p x) (filter_keeps P p xs all'.1)
  where
    by : (b : Bool) → AllByRecursion P (filter p xs) → AllByRecursion P (cond b (x ∷ filter p xs) (filter p xs))
    by true more = (all'.0, more)
    by false more = more

-- what passes the test has what all have, and passes
pub filter_passes : (P Q : ℕ → Type 0) (p : ℕ → Bool) → ((x : ℕ) → P x → p x ≡ true → Q x) → (xs : List ℕ) → AllByRecursion P xs
    → AllByRecursion Q (filter p xs)
filter_passes P Q p to [] all' = tt
filter_passes P Q p to (x ∷ xs) all' = by (p x) refl (filter_passes P Q p to xs all'.1)
  where
    by : (b : Bool) → p x ≡ b → AllByRecursion Q (filter p xs) → AllByRecursion Q (cond b (x ∷ filter p xs) (filter p xs))
    by true e more = (to x all'.0 e, more)
    by false e more = more

counts : (k from count : ℕ) → from ≤ k → k < from + count → list_any (λ n. eqb n k) (count_from from count) ≡ true
counts k from zero le lt = absurd (omega arith)
counts k from (suc count) le lt = by (eqb from k) refl (counts k (from + 1) count)
  where
    by : (b : Bool) → eqb from k ≡ b
        → (from + 1 ≤ k → k < from + 1 + count → list_any (λ n. eqb n k) (count_from (from + 1) count) ≡ true)
        → (b || list_any (λ n. eqb n k) (count_from (from + 1) count)) ≡ true
    by true is more = refl
    by false is more = more (grind (arith, nat_tests)) (omega arith)

among : (P : ℕ → Type 0) (p : ℕ → Bool) (k : ℕ) (xs : List ℕ) → p k ≡ true → list_any (λ n. eqb n k) xs ≡ true
    → AllByRecursion P (filter p xs) → P k
among P p k [] own there all' = cc
among P p k (x ∷ xs) own there all' = by (eqb x k) refl (p x) refl there all' (among P p k xs own)
  where
    by : (b : Bool) → eqb x k ≡ b → (c : Bool) → p x ≡ c → (b || list_any (λ n. eqb n k) xs) ≡ true
        → AllByRecursion P (cond c (x ∷ filter p xs) (filter p xs))
        → (list_any (λ n. eqb n k) xs ≡ true → AllByRecursion P (filter p xs) → P k) → P k
    by true is true holds there all' more = let same : x ≡ k = eqb-true x k is in subst P same all'.0
    by true is false holds there all' more = let same : x ≡ k = eqb-true x k is in let other : p k ≡ false = ap p (sym same) ∙ holds in absurd (clash (p k) own other)
    by false is true holds there all' more = more there all'.1
    by false is false holds there all' more = more there all'

pub all_raised : (amb : ℕ) (creds : Creds) → IsWithin amb all
    → AllByRecursion (λ cap. has creds.ambient cap ≡ true) (filter (has amb) (count_from 0 41)) → IsWithin amb creds.ambient
all_raised amb creds within_all raised = record {
  each = λ k h.
      let top : nat_le k 40 ≡ true = sym (has_all k) ∙ within_all.each k h in
      let below : k < 0 + 41 = grind (arith, nat_tests) in
      among (λ cap. has creds.ambient cap ≡ true) (has amb) k (count_from 0 41) h (counts k 0 41 (omega arith) below) raised;
}
