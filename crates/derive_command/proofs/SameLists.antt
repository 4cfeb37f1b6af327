-- Ascending lists with the same elements are one.
use Rattle.std.proofs.Common.{◌≡◌, ℕ, suc, ◌+◌, ◌<◌, Bool, true, false, List, [], ◌∷◌, refl, ap, ◌∙◌, sym, subst, arith}
use Rattle.std.specs.Prelude.{◌==◌, ◌||◌}
use Rattle.std.specs.List.{AllByRecursion, list_any, slice_index}
use Rattle.std.specs.List.Sorted.{IsStrictlyIncreasing}
use Rattle.std.proofs.lemmas.Bool.Decides.{nat_tests}

abbrev pub has : List ℕ → ℕ → Bool
has xs x = list_any (λ one. one == x) xs

-- what holds of each element holds of a member
pub at_member : (P : ℕ → Type 0) (xs : List ℕ) (x : ℕ) → AllByRecursion P xs → has xs x ≡ true → P x
at_member P [] x all is = cc
at_member P (y ∷ xs) x all is = by (y == x) refl is (λ rest. at_member P xs x all.1 rest)
  where
    by : (b : Bool) → (y == x) ≡ b → (b || has xs x) ≡ true → (has xs x ≡ true → P x) → P x
    by true e is rest = let same : y ≡ x = grind (arith, nat_tests) in subst P same all.0
    by false e is rest = rest is

weaker : (n m : ℕ) (xs : List ℕ) → n < m → AllByRecursion (λ y. m < y) xs → AllByRecursion (λ y. n < y) xs
weaker n m [] less all = tt
weaker n m (x ∷ xs) less all = let first : m < x = all.0 in (omega (arith, first), weaker n m xs less all.1)

later : (x : ℕ) (xs : List ℕ) → IsStrictlyIncreasing (x ∷ xs) → IsStrictlyIncreasing xs
later x xs h k within =
    let e : k + 1 ≡ suc k = omega arith in
    let f : k + 1 + 1 ≡ suc (k + 1) = omega arith in
    let next = h (k + 1) (omega (arith, within)) in
    subst (λ n. slice_index (x ∷ xs) n < slice_index xs (k + 1)) e
    (subst (λ n. slice_index (x ∷ xs) (k + 1) < slice_index (x ∷ xs) n) f next)

above : (x : ℕ) (xs : List ℕ) → IsStrictlyIncreasing (x ∷ xs) → AllByRecursion (λ y. x < y) xs
above x [] h = tt
above x (y ∷ xs) h =
    let first : x < y = h 0 (omega arith) in
    (first, weaker x y xs first (above y xs (later x (y ∷ xs) h)))

member_above : (n : ℕ) (xs : List ℕ) (x : ℕ) → AllByRecursion (λ y. n < y) xs → has xs x ≡ true → n < x
member_above n xs x all is = at_member (λ y. n < y) xs x all is

first_or : (x y : ℕ) (ys : List ℕ) → IsStrictlyIncreasing (y ∷ ys) → has (y ∷ ys) x ≡ true → (y ≡ x → ⊥) → y < x
first_or x y ys h is differs = by (y == x) refl is
  where
    by : (b : Bool) → (y == x) ≡ b → (b || has ys x) ≡ true → y < x
    by true e is = let same : y ≡ x = grind (arith, nat_tests) in absurd (differs same)
    by false e is = member_above y ys x (above y ys h) is

pub own_has : (x : ℕ) (xs : List ℕ) → has (x ∷ xs) x ≡ true
own_has x xs = let e : (x == x) ≡ true = grind (arith, nat_tests) in ap (λ b. b || has xs x) e

pub same_lists : (xs ys : List ℕ) → IsStrictlyIncreasing xs → IsStrictlyIncreasing ys → ((x : ℕ) → has xs x ≡ true → has ys x ≡ true)
    → ((x : ℕ) → has ys x ≡ true → has xs x ≡ true) → xs ≡ ys
same_lists [] [] h k there back = refl
same_lists [] (y ∷ ys) h k there back = let e = back y (own_has y ys) in cc
same_lists (x ∷ xs) [] h k there back = let e = there x (own_has x xs) in cc
same_lists (x ∷ xs) (y ∷ ys) h k there back =
    ap (λ first. first ∷ xs) (same (x == y) refl) ∙ ap (λ rest. y ∷ rest)
    (same_lists xs ys (later x xs h) (later y ys k)
    (λ one is. drop_first x y xs ys one (same (x == y) refl) (above x xs h) is (there one (behind x xs one is)))
    (λ one is. drop_first y x ys xs one (sym (same (x == y) refl)) (above y ys k) is (back one (behind y ys one is))))
  where
    behind : (x : ℕ) (xs : List ℕ) (one : ℕ) → has xs one ≡ true → has (x ∷ xs) one ≡ true
    behind x xs one is = by (x == one)
      where
        by : (b : Bool) → (b || has xs one) ≡ true
        by true = refl
        by false = is

    drop_first : (x y : ℕ) (xs ys : List ℕ) (one : ℕ) → x ≡ y → AllByRecursion (λ y. x < y) xs → has xs one ≡ true
        → has (y ∷ ys) one ≡ true → has ys one ≡ true
    drop_first x y xs ys one e all is there =
        let less = member_above x xs one all is in
        let differs : (y == one) ≡ false = grind (arith, nat_tests) in
        sym (ap (λ b. b || has ys one) differs) ∙ there

    same : (b : Bool) → (x == y) ≡ b → x ≡ y
    same true e = grind (arith, nat_tests)
    same false e =
        let one : y < x = first_or x y ys k (there x (own_has x xs)) (λ own. let t : (x == y) ≡ true = grind (arith, nat_tests) in clash (x == y) t e) in
        let other : x < y = first_or y x xs h (back y (own_has y ys)) (λ own. let t : (x == y) ≡ true = grind (arith, nat_tests) in clash (x == y) t e) in
        absurd (omega (arith, one, other))
      where
        clash : (b : Bool) → b ≡ true → b ≡ false → ⊥
        clash b s t = cc
