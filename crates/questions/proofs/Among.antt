-- What is among the elements of a list, by recursion, and by the words of std.
use Rattle.std.proofs.Common.{◌≡◌, ◌<◌, ◌⊎◌, inl, inr, ℕ, zero, suc, List, [], ◌∷◌, ◌++◌, get_or, length, map, refl, sym, subst, arith}
use Rattle.std.specs.Prelude.{Any, Contains}
use Rattle.std.specs.List.{AllByRecursion}

abbrev pub Has : {X : Type 0} → List X → X → Type 0
Has [] q = ⊥
Has (x ∷ xs) q = (x ≡ q) ⊎ Has xs q

from_place : {X : Type 0} (xs : List X) (q : X) (k : ℕ) → k < length xs → get_or xs k q ≡ q → Has xs q
from_place [] q k h e = absurd (omega arith)
from_place (x ∷ xs) q zero h e = inl e
from_place (x ∷ xs) q (suc k) h e = inr (from_place xs q k (omega arith) e)

pub has_contained : {X : Type 0} (xs : List X) (q : X) → Contains xs q → Has xs q
has_contained xs q h = from_place xs q h.0 h.1 h.2

pub contains_had : {X : Type 0} (xs : List X) (q : X) → Has xs q → Contains xs q
contains_had [] q h = absurd h
contains_had (x ∷ xs) q h = elim h [ inl e ↦ (0, (omega arith), e) | inr more ↦ (let m = contains_had xs q more in (suc m.0, (omega (arith, m.1)), m.2)) ]

pub has_append : {X : Type 0} (xs ys : List X) (q : X) → Has (xs ++ ys) q → Has xs q ⊎ Has ys q
has_append [] ys q h = inr h
has_append (x ∷ xs) ys q h =
    elim h [ inl e ↦ inl (inl e) | inr more ↦ elim (has_append xs ys q more) [ inl a ↦ inl (inr a) | inr b ↦ inr b ] ]

pub has_left : {X : Type 0} (xs ys : List X) (q : X) → Has xs q → Has (xs ++ ys) q
has_left [] ys q h = absurd h
has_left (x ∷ xs) ys q h = elim h [ inl e ↦ inl e | inr more ↦ inr (has_left xs ys q more) ]

pub has_right : {X : Type 0} (xs ys : List X) (q : X) → Has ys q → Has (xs ++ ys) q
has_right [] ys q h = h
has_right (x ∷ xs) ys q h = inr (has_right xs ys q h)

pub all_had : {X : Type 0} (P : X → Type 0) (xs : List X) (q : X) → AllByRecursion P xs → Has xs q → P q
all_had P [] q all h = absurd h
all_had P (x ∷ xs) q all h = elim h [ inl e ↦ subst P e all.0 | inr more ↦ all_had P xs q all.1 more ]

-- some element that is such, by recursion
abbrev pub Some_one : {X : Type 0} → (X → Type 0) → List X → Type 0
Some_one P [] = ⊥
Some_one P (x ∷ xs) = P x ⊎ Some_one P xs

from_any : {X : Type 0} (P : X → Type 0) (xs : List X) (x : X) (k : ℕ) → k < length xs → get_or xs k x ≡ x → P x → Some_one P xs
from_any P [] x k h e p = absurd (omega arith)
from_any P (first ∷ xs) x zero h e p = inl (subst P (sym e) p)
from_any P (first ∷ xs) x (suc k) h e p = inr (from_any P xs x k (omega arith) e p)

pub some_any : {X : Type 0} (P : X → Type 0) (xs : List X) → Any P xs → Some_one P xs
some_any P xs h = from_any P xs h.1 h.0 h.2 h.3 h.4

pub any_some : {X : Type 0} (P : X → Type 0) (xs : List X) → Some_one P xs → Any P xs
any_some P [] h = absurd h
any_some P (x ∷ xs) h = elim h [ inl p ↦ (0, x, (omega arith), refl, p) | inr more ↦ (let m = any_some P xs more in (suc m.0, m.1, (omega (arith, m.2)), m.3, m.4)) ]

-- what is among the values of a function is the value of an element
pub has_mapped : {X Y : Type 0} (f : X → Y) (xs : List X) (y : Y) → Has (map f xs) y → Some_one (λ x. f x ≡ y) xs
has_mapped f [] y h = h
has_mapped f (x ∷ xs) y h = elim h [ inl e ↦ inl e | inr more ↦ inr (has_mapped f xs y more) ]

pub mapped_has : {X Y : Type 0} (f : X → Y) (xs : List X) (y : Y) → Some_one (λ x. f x ≡ y) xs → Has (map f xs) y
mapped_has f [] y h = h
mapped_has f (x ∷ xs) y h = elim h [ inl e ↦ inl e | inr more ↦ inr (mapped_has f xs y more) ]
