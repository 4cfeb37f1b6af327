-- Each element of a list with the elements before it, and the last element.
use Rattle.std.specs.Prelude.{Option, Some, None, List, [], ◌∷◌, ◌++◌}

-- each element with the elements before it, given the elements before the list
abbrev pub with_before : {X : Type 0} → List X → List X → List (List X × X)
with_before before [] = []
with_before before (x ∷ xs) = (before, x) ∷ with_before (before ++ x ∷ []) xs

-- the last element
abbrev pub last_of : {X : Type 0} → List X → Option X
last_of [] = None
last_of (x ∷ []) = Some x
last_of (x ∷ y ∷ xs) = last_of (y ∷ xs)
