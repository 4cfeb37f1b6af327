-- The first of a list that passes a test, and what the elements of a list give, element by element.
use Rattle.std.proofs.Common.{◌≡◌, Bool, true, false, cond, List, ◌∷◌, Some, None, Option, ap}
use Rattle.std.specs.Prelude.{find}
use Rattle.std.specs.List.{filter_map}

pub find_here : {A : Type 0} (test : A → Bool) (x : A) (xs : List A) → test x ≡ true → find test (x ∷ xs) ≡ Some x
find_here test x xs e = ap (λ b. cond b (Some x) (find test xs)) e

pub find_later : {A : Type 0} (test : A → Bool) (x : A) (xs : List A) → test x ≡ false → find test (x ∷ xs) ≡ find test xs
find_later test x xs e = ap (λ b. cond b (Some x) (find test xs)) e

pub gives_none : {A B : Type 0} (give : A → Option B) (x : A) (xs : List A) → give x ≡ None → filter_map give (x ∷ xs) ≡ filter_map give xs
gives_none give x xs e = rw e

pub gives_one : {A B : Type 0} (give : A → Option B) (x : A) (xs : List A) (y : B) → give x ≡ Some y
    → filter_map give (x ∷ xs) ≡ y ∷ filter_map give xs
gives_one give x xs y e = rw e
