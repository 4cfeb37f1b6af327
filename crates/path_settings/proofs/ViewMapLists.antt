-- Facts on lists that are missing in std.
use Rattle.std.proofs.Common.{◌≡◌, ℕ, ◌+◌, Bool, true, false, cond, List, [], ◌∷◌, ◌++◌, filter, map, find, Some, length, suc, append_assoc}
use Rattle.std.proofs.Common.{append-nil, refl, sym, ap, ◌∙◌, subst, arith}
use Rattle.std.specs.Prelude.{◌||◌}
use Rattle.std.proofs.lemmas.Bool.{false≢true, and_parts}
use Rattle.std.proofs.lemmas.List.Elements.{filter-append}
use Rattle.std.specs.List.{AllByRecursion, enumerate_from, list_all, list_any}

-- two tests that imply each other are the same
pub same_test : (one other : Bool) → (one ≡ true → other ≡ true) → (other ≡ true → one ≡ true) → one ≡ other
same_test true other h g = sym (h refl)
same_test false true h g = g refl
same_test false false h g = refl

-- two tests that agree on the elements of a list keep the same elements
pub filter_agree_on : {X : Type 0} (p q : X → Bool) (xs : List X) → AllByRecursion (λ x. p x ≡ q x) xs → filter p xs ≡ filter q xs
filter_agree_on p q [] h = refl
filter_agree_on p q (x ∷ xs) h = let here = h.0 in let more = filter_agree_on p q xs h.1 in cc

pub all_enumerated : {X : Type 0} (P : X → Type 0) (n : ℕ) (xs : List X) → AllByRecursion P xs
    → AllByRecursion (λ found. P found.1) (enumerate_from n xs)
all_enumerated P n [] h = tt
all_enumerated P n (x ∷ xs) h = (h.0, all_enumerated P (n + 1) xs h.1)

pub all_weaker : {X : Type 0} (P Q : X → Type 0) (xs : List X) → ((x : X) → P x → Q x) → AllByRecursion P xs → AllByRecursion Q xs
all_weaker P Q [] f h = tt
all_weaker P Q (x ∷ xs) f h = (f x h.0, all_weaker P Q xs f h.1)

pub all_mapped : {X Y : Type 0} (f : X → Y) (P : Y → Type 0) (xs : List X) → AllByRecursion (λ x. P (f x)) xs → AllByRecursion P (map f xs)
all_mapped f P [] h = tt
all_mapped f P (x ∷ xs) h = (h.0, all_mapped f P xs h.1)

pub mapped_all : {X Y : Type 0} (f : X → Y) (P : Y → Type 0) (xs : List X) → AllByRecursion P (map f xs) → AllByRecursion (λ x. P (f x)) xs
mapped_all f P [] h = tt
mapped_all f P (x ∷ xs) h = (h.0, mapped_all f P xs h.1)

pub all_trivial : {X : Type 0} (xs : List X) → AllByRecursion (λ _. Unit {0}) xs
all_trivial [] = tt
all_trivial (x ∷ xs) = (tt, all_trivial xs)

-- each element that passes has a property exactly if each element that is kept has it
pub filter_is : {X : Type 0} (test : X → Bool) (P : X → Type 0) (xs : List X) → AllByRecursion (λ x. test x ≡ true → P x) xs
    → AllByRecursion P (filter test xs)
filter_is test P [] h = tt
filter_is test P (x ∷ xs) h = by (test x) refl (filter_is test P xs h.1)
  where
    by : (b : Bool) → test x ≡ b → AllByRecursion P (filter test xs) → AllByRecursion P (cond b (x ∷ filter test xs) (filter test xs))
    by true e more = (h.0 e, more)
    by false e more = more

pub filter_was : {X : Type 0} (test : X → Bool) (P : X → Type 0) (xs : List X) → AllByRecursion P (filter test xs)
    → AllByRecursion (λ x. test x ≡ true → P x) xs
filter_was test P [] h = tt
filter_was test P (x ∷ xs) h = by (test x) refl h (λ more. filter_was test P xs more)
  where
    by : (b : Bool) → test x ≡ b → AllByRecursion P (cond b (x ∷ filter test xs) (filter test xs))
        → (AllByRecursion P (filter test xs) → AllByRecursion (λ x. test x ≡ true → P x) xs) →
        (test x ≡ true → P x) × AllByRecursion (λ x. test x ≡ true → P x) xs
    by true e h go = ((λ _. h.0), go h.1)
    by false e h go = ((λ t. absurd (false≢true (sym e ∙ t))), go h)

pub filter_none : {X : Type 0} (test : X → Bool) (xs : List X) → AllByRecursion (λ x. test x ≡ false) xs → filter test xs ≡ []
filter_none test [] h = refl
filter_none test (x ∷ xs) h = let here = h.0 in let more = filter_none test xs h.1 in cc

pub filter_all : {X : Type 0} (test : X → Bool) (xs : List X) → AllByRecursion (λ x. test x ≡ true) xs → filter test xs ≡ xs
filter_all test [] h = refl
filter_all test (x ∷ xs) h = let here = h.0 in let more = filter_all test xs h.1 in cc

pub all_filtered : {X : Type 0} (P : X → Type 0) (test : X → Bool) (xs : List X) → AllByRecursion P xs → AllByRecursion P (filter test xs)
all_filtered P test xs h = filter_is test P xs (all_weaker P (λ x. test x ≡ true → P x) xs (λ x p _. p) h)

pub all_appended : {X : Type 0} (P : X → Type 0) (xs ys : List X) → AllByRecursion P xs → AllByRecursion P ys → AllByRecursion P (xs ++ ys)
all_appended P [] ys h g = g
all_appended P (x ∷ xs) ys h g = (h.0, all_appended P xs ys h.1 g)

-- if each element has a property, so has the one that is found
pub find_is : {X : Type 0} (P : X → Type 0) (test : X → Bool) (xs : List X) (one : X) → AllByRecursion P xs → find test xs ≡ Some one
    → P one
find_is P test [] one h e = cc
find_is {X = X} P test (x ∷ xs) one h e = by (test x) e (find_is P test xs one h.1)
  where
    by : (b : Bool) → cond b (Some x) (find test xs) ≡ Some one → (find test xs ≡ Some one → P one) → P one
    by true e more = let same : x ≡ one = cc in subst P same h.0
    by false e more = more e

-- of three pieces only the middle one passes
pub filter_middle : {X : Type 0} (test : X → Bool) (xs ys zs : List X) → AllByRecursion (λ x. test x ≡ false) xs
    → AllByRecursion (λ x. test x ≡ true) ys → AllByRecursion (λ x. test x ≡ false) zs → filter test ((xs ++ ys) ++ zs) ≡ ys
filter_middle test xs ys zs h g k =
    let first = filter_none test xs h in
    let middle = filter_all test ys g in
    let last = filter_none test zs k in
    filter-append test (xs ++ ys) zs ∙ ap (λ end. filter test (xs ++ ys) ++ end) last ∙ append-nil (filter test (xs ++ ys))
    ∙ filter-append test xs ys ∙ ap (λ front. front ++ filter test ys) first ∙ middle

enumerated : {X : Type 0} (n : ℕ) (xs ys : List X) → enumerate_from n (xs ++ ys) ≡ enumerate_from n xs ++ enumerate_from (n + length xs) ys
enumerated n [] ys = ap (λ m. enumerate_from m ys) (plus_none n)
  where
    plus_none : (n : ℕ) → n ≡ n + 0
    plus_none n = omega arith
enumerated n (x ∷ xs) ys = ap (λ l. (n, x) ∷ l) (enumerated (n + 1) xs ys
    ∙ ap (λ m. enumerate_from (n + 1) xs ++ enumerate_from m ys) (one_over n (length xs)))
  where
    one_over : (n k : ℕ) → (n + 1) + k ≡ n + suc k
    one_over n k = omega arith

none_found : {X : Type 0} (test : X → Bool) (n : ℕ) (xs : List X) → AllByRecursion (λ x. test x ≡ false) xs
    → filter (λ one. test one.1) (enumerate_from n xs) ≡ []
none_found test n [] h = refl
none_found test n (x ∷ xs) h = let here = h.0 in let more = none_found test (n + 1) xs h.1 in cc

-- of three pieces only the first has elements that pass, at their positions
pub found_front : {X : Type 0} (test : X → Bool) (xs ys zs : List X) → AllByRecursion (λ x. test x ≡ false) ys
    → AllByRecursion (λ x. test x ≡ false) zs →
    filter (λ one. test one.1) (enumerate_from 0 ((xs ++ ys) ++ zs)) ≡ filter (λ one. test one.1) (enumerate_from 0 xs)
found_front test xs ys zs g k = ap (λ l. filter (λ one. test one.1) (enumerate_from 0 l)) (append_assoc xs ys zs)
    ∙ ap (filter (λ one. test one.1)) (enumerated 0 xs (ys ++ zs)) ∙ filter-append (λ one. test one.1) (enumerate_from 0 xs) _
    ∙ ap (λ end. filter (λ one. test one.1) (enumerate_from 0 xs) ++ end)
    (none_found test (0 + length xs) (ys ++ zs) (all_appended (λ x. test x ≡ false) ys zs g k)) ∙ append-nil _

pub enumerated_all : {X : Type 0} (P : X → Type 0) (n : ℕ) (xs : List X) → AllByRecursion (λ found. P found.1) (enumerate_from n xs)
    → AllByRecursion P xs
enumerated_all P n [] h = tt
enumerated_all P n (x ∷ xs) h = (h.0, enumerated_all P (n + 1) xs h.1)

-- a test of each, and of none, as facts
pub all_from_test : {X : Type 0} (test : X → Bool) (xs : List X) → list_all test xs ≡ true → AllByRecursion (λ x. test x ≡ true) xs
all_from_test test [] h = tt
all_from_test test (x ∷ xs) h = let both = and_parts (test x) (list_all test xs) h in (both.0, all_from_test test xs both.1)

pub none_from_test : {X : Type 0} (test : X → Bool) (xs : List X) → list_any test xs ≡ false → AllByRecursion (λ x. test x ≡ false) xs
none_from_test test [] h = tt
none_from_test test (x ∷ xs) h = by (test x) refl h (none_from_test test xs)
  where
    by : (b : Bool) → test x ≡ b → (b || list_any test xs) ≡ false → (list_any test xs ≡ false → AllByRecursion (λ x. test x ≡ false) xs)
        → (test x ≡ false) × AllByRecursion (λ x. test x ≡ false) xs
    by true e h more = absurd (false≢true (sym h))
    by false e h more = (e, more h)

-- an element that is found passes the test
pub find_passes : {X : Type 0} (test : X → Bool) (xs : List X) (one : X) → find test xs ≡ Some one → test one ≡ true
find_passes test [] one e = cc
find_passes test (x ∷ xs) one e = by (test x) refl e (find_passes test xs one)
  where
    by : (b : Bool) → test x ≡ b → cond b (Some x) (find test xs) ≡ Some one → (find test xs ≡ Some one → test one ≡ true) → test one ≡ true
    by true t e more = let same : x ≡ one = cc in sym (ap test same) ∙ t
    by false t e more = more e
