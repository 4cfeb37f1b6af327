-- Each element of a list with the elements before it.
use Rattle.std.specs.Prelude.{List, [], ◌∷◌, ◌++◌}

-- each element with the elements before it, given the elements before the list
abbrev pub with_before : {X : Type 0} → List X → List X → List (List X × X)
with_before before [] = []
with_before before (x ∷ xs) = (before, x) ∷ with_before (before ++ x ∷ []) xs
