-- The largest element of a list by a size: the first that is as large as each other one. A walk over the list finds it.
use Rattle.std.proofs.Common.{◌≡◌, ℕ, Bool, true, false, cond, List, [], ◌∷◌, fold, Option, Some, None, refl, sym, ap, ◌∙◌, arith}
use Rattle.std.specs.Prelude.{◌&&◌, ◌||◌, nat_le, nat_lt, find}
use Rattle.std.specs.List.{list_any, list_all}
use Rattle.std.proofs.lemmas.Bool.{and_parts, and_from, false≢true}
use Rattle.std.proofs.lemmas.Bool.Decides.{nat_tests}

-- as large as each of the others
abbrev covers : {X : Type 0} → (X → ℕ) → List X → X → Bool
covers size others one = list_all (λ other. nat_le (size other) (size one)) others

-- the larger of two elements, or the first on a tie
abbrev larger : {X : Type 0} → (X → ℕ) → Option X → X → Option X
larger size None one = Some one
larger size (Some best) one = Some (cond (nat_lt (size best) (size one)) one best)

-- the first element exists, and is as large as the second
abbrev reaches : {X : Type 0} → (X → ℕ) → Option X → Option X → Bool
reaches size None other = false
reaches size (Some one) None = true
reaches size (Some one) (Some other) = nat_le (size other) (size one)

find_same : {X : Type 0} (p q : X → Bool) (xs : List X) → ((x : X) → p x ≡ q x) → find p xs ≡ find q xs
find_same p q [] h = refl
find_same p q (x ∷ xs) h = let here = h x in let more = find_same p q xs h in cc

le_itself : (n : ℕ) → nat_le n n ≡ true
le_itself n = grind (arith, nat_tests)

le_through : (a b c : ℕ) → nat_le a b ≡ true → nat_le b c ≡ true → nat_le a c ≡ true
le_through a b c h g = grind (arith, nat_tests)

le_unless_less : (a b : ℕ) → nat_lt a b ≡ false → nat_le b a ≡ true
le_unless_less a b h = grind (arith, nat_tests)

no_le_below : (a b : ℕ) → nat_lt a b ≡ true → nat_le b a ≡ false
no_le_below a b h = grind (arith, nat_tests)

-- a smaller bound before a larger one says nothing
smaller_says_nothing : (small large n : ℕ) (r : Bool) → nat_le small large ≡ true
    → (nat_le small n && (nat_le large n && r)) ≡ (nat_le large n && r)
smaller_says_nothing small large n r h = by (nat_le large n) refl
  where
    by : (b : Bool) → nat_le large n ≡ b → (nat_le small n && (b && r)) ≡ (b && r)
    by true e = ap (λ b. b && r) (le_through small large n h e)
    by false e = and_false (nat_le small n)
      where
        and_false : (b : Bool) → (b && false) ≡ false
        and_false true = refl
        and_false false = refl

and_swap : (a b r : Bool) → (a && (b && r)) ≡ (b && (a && r))
and_swap true true r = refl
and_swap true false r = refl
and_swap false true r = refl
and_swap false false r = refl

covers_more : {X : Type 0} (size : X → ℕ) (xs : List X) (one other : X) → nat_le (size one) (size other) ≡ true
    → covers size xs one ≡ true → covers size xs other ≡ true
covers_more size [] one other h g = refl
covers_more size (x ∷ xs) one other h g =
    let both = and_parts (nat_le (size x) (size one)) (covers size xs one) g in
    and_from _ _ (le_through (size x) (size one) (size other) both.0 h) (covers_more size xs one other h both.1)

-- the first largest of a list, if an element in front is less than the next one
past_less : {X : Type 0} (size : X → ℕ) (best x : X) (xs : List X) → nat_lt (size best) (size x) ≡ true →
    find (covers size (x ∷ xs)) (x ∷ xs) ≡ find (covers size (best ∷ x ∷ xs)) (best ∷ x ∷ xs)
past_less size best x xs less =
    let not_best : covers size (best ∷ x ∷ xs) best ≡ false = ap (λ b. nat_le (size best) (size best) && (b && covers size xs best)) (no_le_below (size best) (size x) less) ∙ ap (λ b. b && false) (le_itself (size best)) in
    find_same (covers size (x ∷ xs)) (covers size (best ∷ x ∷ xs)) (x ∷ xs)
    (λ m. sym (smaller_says_nothing (size best) (size x) (size m) (covers size xs m) (less_le (size best) (size x) less)))
    ∙ sym (ap (λ b. cond b (Some best) (find (covers size (best ∷ x ∷ xs)) (x ∷ xs))) not_best)
  where
    less_le : (a b : ℕ) → nat_lt a b ≡ true → nat_le a b ≡ true
    less_le a b h = grind (arith, nat_tests)

-- an element that is not larger than the first is skipped
past_rest : {X : Type 0} (size : X → ℕ) (best x : X) (xs : List X) → nat_lt (size best) (size x) ≡ false →
    find (covers size (best ∷ xs)) (best ∷ xs) ≡ find (covers size (best ∷ x ∷ xs)) (best ∷ x ∷ xs)
past_rest size best x xs less =
    skipped (covers size (best ∷ xs) best) refl
    ∙ find_same (covers size (best ∷ xs)) (covers size (best ∷ x ∷ xs)) (best ∷ x ∷ xs)
    (λ m. sym (and_swap (nat_le (size best) (size m)) (nat_le (size x) (size m)) (covers size xs m)
    ∙ smaller_says_nothing (size x) (size best) (size m) (covers size xs m) (le_unless_less (size best) (size x) less)))
  where
    skipped : (b : Bool) → covers size (best ∷ xs) best ≡ b →
        cond b (Some best) (find (covers size (best ∷ xs)) xs)
        ≡ cond b (Some best) (cond (covers size (best ∷ xs) x) (Some x) (find (covers size (best ∷ xs)) xs))
    skipped true e = refl
    skipped false e = further (covers size (best ∷ xs) x) refl
      where
        further : (b : Bool) → covers size (best ∷ xs) x ≡ b
            → find (covers size (best ∷ xs)) xs ≡ cond b (Some x) (find (covers size (best ∷ xs)) xs)
        further true g = absurd (false≢true (sym e ∙ covers_more size (best ∷ xs) x best (le_unless_less (size best) (size x) less) g))
        further false g = refl

walk_from : {X : Type 0} (size : X → ℕ) (best : X) (xs : List X)
    → fold (larger size) (Some best) xs ≡ find (covers size (best ∷ xs)) (best ∷ xs)
walk_from size best [] = sym (ap (λ b. cond (b && true) (Some best) None) (le_itself (size best)))
walk_from {X = X} size best (x ∷ xs) = by (nat_lt (size best) (size x)) refl (λ first. walk_from size first xs)
  where
    by : (b : Bool) → nat_lt (size best) (size x) ≡ b
        → ((first : X) → fold (larger size) (Some first) xs ≡ find (covers size (first ∷ xs)) (first ∷ xs)) →
        fold (larger size) (Some (cond b x best)) xs ≡ find (covers size (best ∷ x ∷ xs)) (best ∷ x ∷ xs)
    by true e more = more x ∙ past_less size best x xs e
    by false e more = more best ∙ past_rest size best x xs e

-- a walk finds the first that is as large as each
pub walk_finds : {X : Type 0} (size : X → ℕ) (xs : List X) → fold (larger size) None xs ≡ find (covers size xs) xs
walk_finds size [] = refl
walk_finds size (x ∷ xs) = walk_from size x xs

-- nothing found so far is larger than n
abbrev within : {X : Type 0} → (X → ℕ) → ℕ → Option X → Bool
within size n None = true
within size n (Some best) = nat_le (size best) n

within_larger : {X : Type 0} (size : X → ℕ) (n : ℕ) (best : Option X) (x : X)
    → within size n (larger size best x) ≡ (within size n best && nat_le (size x) n)
within_larger size n None x = refl
within_larger size n (Some best) x = by (nat_lt (size best) (size x)) refl
  where
    by : (b : Bool) → nat_lt (size best) (size x) ≡ b → nat_le (size (cond b x best)) n ≡ (nat_le (size best) n && nat_le (size x) n)
    by true e = below (size best) (size x) e
      where
        below : (small large : ℕ) → nat_lt small large ≡ true → nat_le large n ≡ (nat_le small n && nat_le large n)
        below small large h = grind (arith, nat_tests)
    by false e = above (size best) (size x) e
      where
        above : (large small : ℕ) → nat_lt large small ≡ false → nat_le large n ≡ (nat_le large n && nat_le small n)
        above large small h = grind (arith, nat_tests)

and_group : (a b c : Bool) → ((a && b) && c) ≡ (a && (b && c))
and_group true b c = refl
and_group false b c = refl

or_group : (a b c : Bool) → ((a || b) || c) ≡ (a || (b || c))
or_group true b c = refl
or_group false b c = refl

-- each element is within n exactly if the largest is
within_each : {X : Type 0} (size : X → ℕ) (n : ℕ) (best : Option X) (xs : List X) →
    within size n (fold (larger size) best xs) ≡ (within size n best && list_all (λ x. nat_le (size x) n) xs)
within_each size n best [] = and_true (within size n best)
  where
    and_true : (b : Bool) → b ≡ (b && true)
    and_true true = refl
    and_true false = refl
within_each size n best (x ∷ xs) =
    within_each size n (larger size best x) xs ∙ ap (λ b. b && list_all (λ x. nat_le (size x) n) xs) (within_larger size n best x)
    ∙ and_group (within size n best) (nat_le (size x) n) (list_all (λ x. nat_le (size x) n) xs)

reaches_larger : {X : Type 0} (size : X → ℕ) (best : Option X) (x : X) (other : Option X)
    → reaches size (larger size best x) other ≡ (reaches size best other || within size (size x) other)
reaches_larger size None x None = refl
reaches_larger size None x (Some other) = refl
reaches_larger size (Some best) x None = refl
reaches_larger size (Some best) x (Some other) = by (nat_lt (size best) (size x)) refl
  where
    by : (b : Bool) → nat_lt (size best) (size x) ≡ b → nat_le (size other) (size (cond b x best))
        ≡ (nat_le (size other) (size best) || nat_le (size other) (size x))
    by true e = below (size best) (size x) (size other) e
      where
        below : (small large n : ℕ) → nat_lt small large ≡ true → nat_le n large ≡ (nat_le n small || nat_le n large)
        below small large n h = grind (arith, nat_tests)
    by false e = above (size best) (size x) (size other) e
      where
        above : (large small n : ℕ) → nat_lt large small ≡ false → nat_le n large ≡ (nat_le n large || nat_le n small)
        above large small n h = grind (arith, nat_tests)

reaches_some : {X : Type 0} (size : X → ℕ) (best : Option X) (xs : List X) (other : Option X) →
    reaches size (fold (larger size) best xs) other ≡ (reaches size best other || list_any (λ x. within size (size x) other) xs)
reaches_some size best [] other = or_false (reaches size best other)
  where
    or_false : (b : Bool) → b ≡ (b || false)
    or_false true = refl
    or_false false = refl
reaches_some size best (x ∷ xs) other =
    reaches_some size (larger size best x) xs other ∙ ap (λ b. b || list_any (λ x. within size (size x) other) xs)
    (reaches_larger size best x other)
    ∙ or_group (reaches size best other) (within size (size x) other) (list_any (λ x. within size (size x) other) xs)

any_same : {X : Type 0} (p q : X → Bool) (xs : List X) → ((x : X) → p x ≡ q x) → list_any p xs ≡ list_any q xs
any_same p q [] h = refl
any_same p q (x ∷ xs) h = let here = h x in let more = any_same p q xs h in cc

-- some element of a list is as large as each of another list exactly if the largest of the first is as large as the largest of the other
pub largest_reaches : {X : Type 0} (size : X → ℕ) (xs others : List X)
    → reaches size (find (covers size xs) xs) (find (covers size others) others) ≡ list_any (covers size others) xs
largest_reaches size xs others =
    ap (λ o. reaches size o (find (covers size others) others)) (sym (walk_finds size xs))
    ∙ ap (reaches size (fold (larger size) None xs)) (sym (walk_finds size others))
    ∙ reaches_some size None xs (fold (larger size) None others)
    ∙ any_same (λ x. within size (size x) (fold (larger size) None others)) (covers size others) xs
    (λ x. within_each size (size x) None others)

walk_has : {X : Type 0} (size : X → ℕ) (best : X) (xs : List X) → (last : X) × (fold (larger size) (Some best) xs ≡ Some last)
walk_has size best [] = (best, refl)
walk_has size best (x ∷ xs) = walk_has size (cond (nat_lt (size best) (size x)) x best) xs

-- only an empty list has no largest element
pub none_largest : {X : Type 0} (size : X → ℕ) (xs : List X) → find (covers size xs) xs ≡ None → xs ≡ []
none_largest size [] e = refl
none_largest size (x ∷ xs) e = let found = walk_has size x xs in let walked = walk_finds size (x ∷ xs) in cc (found.1)
