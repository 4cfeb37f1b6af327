-- Lists whose numbers rise, and what holds of each member of a list.
use Rattle.std.proofs.Common.{◌≡◌, suc, ℕ, ◌+◌, ◌<◌, ◌≤◌, Bool, true, false, eqb, cond, find, Option, Some, None, Result, Ok, Err, List, []}
use Rattle.std.proofs.Common.{◌∷◌, ◌++◌, length, map, refl, ap, ◌∙◌, subst, arith}
use Rattle.std.specs.Prelude.{slice_index, ◌||◌, IfOk}
use Rattle.std.specs.List.{All, list_any, sum_by}
use Rattle.std.specs.List.Sorted.{IsStrictlyIncreasing}
use Rattle.std.proofs.lemmas.Bool.Decides.{nat_tests}
use Rattle.std.proofs.lemmas.List.Sums.{sum_by-cons}

-- it holds of each member
abbrev pub Each : {X : Type 0} → (X → Type 0) → List X → Type 0
Each P [] = Unit {0}
Each P (x ∷ xs) = P x × Each P xs

pub each_all : {X : Type 0} (P : X → Type 0) (xs : List X) → All P xs → Each P xs
each_all P [] h = tt
each_all P (x ∷ xs) h = (h 0 x (omega arith), each_all P xs (λ k d below. h (suc k) d (omega arith)))

pub each_before : {X : Type 0} (P : X → Type 0) (xs ys : List X) → Each P (xs ++ ys) → Each P xs
each_before P [] ys h = tt
each_before P (x ∷ xs) ys h = (h.0, each_before P xs ys h.1)

pub each_last : {X : Type 0} (P : X → Type 0) (xs : List X) (x : X) → Each P (xs ++ x ∷ []) → P x
each_last P [] x h = h.0
each_last P (y ∷ xs) x h = each_last P xs x h.1

pub each_append : {X : Type 0} (P : X → Type 0) (xs ys : List X) → Each P xs → Each P ys → Each P (xs ++ ys)
each_append P [] ys h k = k
each_append P (x ∷ xs) ys h k = (h.0, each_append P xs ys h.1 k)

pub each_map : {X : Type 0} (P Q : X → Type 0) (xs : List X) → ((x : X) → P x → Q x) → Each P xs → Each Q xs
each_map P Q [] f h = tt
each_map P Q (x ∷ xs) f h = (f x h.0, each_map P Q xs f h.1)

-- each number is below those behind it
abbrev pub Rises : List ℕ → Type 0
Rises [] = Unit {0}
Rises (n ∷ ns) = Each (λ m. n < m) ns × Rises ns

pub rises : (ns : List ℕ) → IsStrictlyIncreasing ns → Rises ns
rises [] h = tt
rises (n ∷ []) h = (tt, tt)
rises (n ∷ m ∷ ns) h =
    let more = rises (m ∷ ns) (λ k below.
    let next : suc k + 1 ≡ suc (k + 1) = omega arith in
    subst (λ i. slice_index (m ∷ ns) k < slice_index (n ∷ m ∷ ns) i) next (h (suc k) (omega arith))) in
    let first : n < m = h 0 (omega arith) in
    ((first, each_map (λ o. m < o) (λ o. n < o) ns (λ o lt. omega arith) more.0), more)

pub rises_before : (ns ms : List ℕ) → Rises (ns ++ ms) → Rises ns
rises_before [] ms h = tt
rises_before (n ∷ ns) ms h = (each_before (λ m. n < m) ns ms h.0, rises_before ns ms h.1)

pub rises_last : (ns : List ℕ) (last : ℕ) → Rises (ns ++ last ∷ []) → Each (λ n. n < last) ns
rises_last [] last h = tt
rises_last (n ∷ ns) last h = (each_last (λ m. n < m) ns last h.0, rises_last ns last h.1)

-- a number that is not below the end is none of those
different : (a b : ℕ) → b < a → eqb a b ≡ false
different a b lt = grind (arith, nat_tests)

different_too : (a b : ℕ) → a < b → eqb a b ≡ false
different_too a b lt = grind (arith, nat_tests)

pub none_of : (ns : List ℕ) (end word : ℕ) → Each (λ n. n < end) ns → end ≤ word → list_any (λ n. eqb word n) ns ≡ false
none_of [] end word h le = refl
none_of (n ∷ ns) end word h le = let first = h.0 in ap (λ b. b || list_any (λ n. eqb word n) ns) (different word n (omega arith)) ∙ none_of ns end word h.1 le

or_false : (b c d : Bool) → (c ≡ false → d ≡ false) → (b || c) ≡ false → (b || d) ≡ false
or_false true c d f h = h
or_false false c d f h = f h

any_last : (ns : List ℕ) (last word : ℕ) → eqb word last ≡ false → list_any (λ n. eqb word n) ns ≡ false
    → list_any (λ n. eqb word n) (ns ++ last ∷ []) ≡ false
any_last [] last word e h = ap (λ b. b || false) e
any_last (n ∷ ns) last word e h = or_false (eqb word n) (list_any (λ n. eqb word n) ns) (list_any (λ n. eqb word n) (ns ++ last ∷ []))
    (any_last ns last word e) h

pub none_above : (ns : List ℕ) (last word : ℕ) → Each (λ n. n < last) ns → last < word
    → list_any (λ n. eqb word n) (ns ++ last ∷ []) ≡ false
none_above ns last word h lt = any_last ns last word (different word last lt) (none_of ns last word h (omega arith))

pub none_below : (ns : List ℕ) (last word : ℕ) → word < last → list_any (λ n. eqb word n) ns ≡ false
    → list_any (λ n. eqb word n) (ns ++ last ∷ []) ≡ false
none_below ns last word lt h = any_last ns last word (different_too word last lt) h

pub sum_last : {X : Type 0} (f : X → ℕ) (xs : List X) (x : X) → sum_by f (xs ++ x ∷ []) ≡ sum_by f xs + f x
sum_last f [] x = omega (arith, sum_by-cons f x [])
sum_last f (y ∷ xs) x = omega (arith, sum_by-cons f y xs, sum_by-cons f y (xs ++ x ∷ []), sum_last f xs x)

pub each_after : {X : Type 0} (P : X → Type 0) (xs ys : List X) → Each P (xs ++ ys) → Each P ys
each_after P [] ys h = h
each_after P (x ∷ xs) ys h = each_after P xs ys h.1

-- no member has a number that is not listed
none_first : {X : Type 0} (b : Bool) (x : X) (found : Option X) (others : Bool) → (b || others) ≡ false → (others ≡ false → found ≡ None)
    → cond b (Some x) found ≡ None
none_first true x found others e h = cc
none_first false x found others e h = h e

eqb_comm : (a b : ℕ) → eqb a b ≡ eqb b a
eqb_comm a b = grind (arith, nat_tests)

pub find_none : {X : Type 0} (f : X → ℕ) (xs : List X) (word : ℕ) → list_any (λ n. eqb word n) (map f xs) ≡ false
    → find (λ x. eqb (f x) word) xs ≡ None
find_none f [] word e = refl
find_none f (x ∷ xs) word e =
    ap (λ b. cond b (Some x) (find (λ x. eqb (f x) word) xs)) (eqb_comm (f x) word)
    ∙ none_first (eqb word (f x)) x (find (λ x. eqb (f x) word) xs) (list_any (λ n. eqb word n) (map f xs)) e (find_none f xs word)

pub same_self : (n : ℕ) → eqb n n ≡ true
same_self n = grind (arith, nat_tests)

-- the member with the number, where those before it have lower ones
pub find_here : {X : Type 0} (f : X → ℕ) (before after : List X) (x : X) → Each (λ n. n < f x) (map f before)
    → find (λ y. eqb (f y) (f x)) (before ++ x ∷ after) ≡ Some x
find_here f [] after x h = ap (λ b. cond b (Some x) (find (λ y. eqb (f y) (f x)) after)) (same_self (f x))
find_here f (y ∷ before) after x h =
    ap (λ b. cond b (Some y) (find (λ y. eqb (f y) (f x)) (before ++ x ∷ after))) (different_too (f y) (f x) h.0)
    ∙ find_here f before after x h.1

pub map_last : {X : Type 0} (f : X → ℕ) (xs : List X) (x : X) → map f (xs ++ x ∷ []) ≡ map f xs ++ f x ∷ []
map_last f [] x = refl
map_last f (y ∷ xs) x = ap (λ ns. f y ∷ ns) (map_last f xs x)

pub no_members : {X : Type 0} (xs : List X) → length xs ≡ 0 → xs ≡ []
no_members [] e = refl
no_members (x ∷ xs) e = absurd (omega arith)

-- Results.

pub if_ok : {X E : Type 0} (P Q : X → Type 0) (r : Result X E) → ((x : X) → P x → Q x) → IfOk r P → IfOk r Q
if_ok P Q (Ok x) f h = f x h
if_ok P Q (Err e) f h = tt

pub if_both : {X E : Type 0} (P Q R : X → Type 0) (r : Result X E) → ((x : X) → P x → Q x → R x) → IfOk r P → IfOk r Q → IfOk r R
if_both P Q R (Ok x) f h k = f x h k
if_both P Q R (Err e) f h k = tt
