-- The order of the names.
use Rattle.std.specs.Prelude.{ℕ, List, Bool}
use Rattle.std.specs.Ordering.{is_lt, nat_cmp}
use Rattle.std.specs.Cmp.Lexicographic.{slice_cmp}

-- whether a name comes before another, by their bytes
abbrev pub is_before : List ℕ → List ℕ → Bool
is_before name other = is_lt (slice_cmp nat_cmp name other)
