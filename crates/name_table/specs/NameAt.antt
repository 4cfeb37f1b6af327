-- The names of a list, in the order of a list of their places.
use Rattle.std.specs.Prelude.{ℕ, List, [], slice_index, slice_index_or}

-- the name at the k-th of these places
abbrev pub name_at : List (List ℕ) → List ℕ → ℕ → List ℕ
name_at names places k = slice_index_or names (slice_index places k) []
