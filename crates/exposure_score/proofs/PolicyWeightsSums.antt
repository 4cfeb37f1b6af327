-- A policy weighs something exactly where one of its tests does.
use Rattle.std.proofs.Common.{◌≡◌, ◌∙◌, ◌+◌, ℕ, Bool, true, false, List, [], ◌∷◌, refl, sym, ap, cond, arith}
use Rattle.std.specs.Prelude.{◌&&◌, ◌||◌, nat_lt, filter, find, is_some, sum_by}
use Rattle.std.specs.List.{list_any}
use Rattle.std.proofs.lemmas.Bool.Decides.{nat_tests}
use Rattle.std.proofs.lemmas.List.Sums.{sum_by-cons}
use Rattle.exposure_score.specs.declared.policy_file.policy.PolicyTest.{PolicyTest}

module _ {X : Type 0} (p : X → Bool) where
  step : (x : X) (xs : List X) (b : Bool) → p x ≡ b → is_some (find p xs) ≡ list_any p xs → is_some (find p (x ∷ xs)) ≡ list_any p (x ∷ xs)
  step x xs true is rest = cc
  step x xs false is rest = cc

  -- one is found where there is any
  pub found : (xs : List X) → is_some (find p xs) ≡ list_any p xs
  found [] = refl
  found (x ∷ xs) = step x xs (p x) refl (found xs)

-- what settings or a stored test decide
pub known_then : (known listed stored : Bool) → known ≡ listed → known ≡ true → known ≡ (listed || stored)
known_then known listed stored is holds = holds ∙ sym (ap (λ b. b || stored) (sym is ∙ holds))

pub known_else : (known listed answer stored : Bool) → known ≡ listed → known ≡ false → answer ≡ stored → answer ≡ (listed || stored)
known_else known listed answer stored is fails found = found ∙ sym (ap (λ b. b || stored) (sym is ∙ fails))

either_weighs : (one other : ℕ) → (nat_lt 0 one || nat_lt 0 other) ≡ nat_lt 0 (one + other)
either_weighs one other = by_tests (nat_lt 0 one) refl (nat_lt 0 other) refl
  where
    by_tests : (a : Bool) → nat_lt 0 one ≡ a → (b : Bool) → nat_lt 0 other ≡ b → (a || b) ≡ nat_lt 0 (one + other)
    by_tests true is b also = grind (arith, nat_tests)
    by_tests false is true also = grind (arith, nat_tests)
    by_tests false is false also = grind (arith, nat_tests)

-- of the tests that count
module _ (counts : PolicyTest → Bool) where
  pub any_weighs : (policy : List PolicyTest) → list_any (λ test. nat_lt 0 test.weight && counts test) policy
      ≡ nat_lt 0 (sum_by (λ test. test.weight) (filter counts policy))
  any_weighs [] = refl
  any_weighs (test ∷ policy) = by_test (any_weighs policy) (counts test)
    where
      both : (b : Bool) → (b && true) ≡ b
      both true = refl
      both false = refl

      neither : (b : Bool) → (b && false) ≡ false
      neither true = refl
      neither false = refl

      by_test : list_any (λ test. nat_lt 0 test.weight && counts test) policy
          ≡ nat_lt 0 (sum_by (λ test. test.weight) (filter counts policy)) → (b : Bool)
          → ((nat_lt 0 test.weight && b) || list_any (λ test. nat_lt 0 test.weight && counts test) policy)
          ≡ nat_lt 0 (sum_by (λ test. test.weight) (cond b (test ∷ filter counts policy) (filter counts policy)))
      by_test rest true =
          ap (λ b. b || list_any (λ test. nat_lt 0 test.weight && counts test) policy) (both (nat_lt 0 test.weight))
          ∙ ap (λ b. nat_lt 0 test.weight || b) rest
          ∙ either_weighs test.weight (sum_by (λ (test : PolicyTest). test.weight) (filter counts policy))
          ∙ ap (nat_lt 0) (sym (sum_by-cons (λ (test : PolicyTest). test.weight) test (filter counts policy)))
      by_test rest false = ap (λ b. b || list_any (λ test. nat_lt 0 test.weight && counts test) policy) (neither (nat_lt 0 test.weight))
          ∙ rest
