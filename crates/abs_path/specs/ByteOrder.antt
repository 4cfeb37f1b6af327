-- Byte order of paths, and lists of paths in it.
use Rattle.std.specs.Prelude.{◌≡◌, Bool, true, cond, List, [], ◌∷◌}
use Rattle.std.specs.Ordering.{is_lt, nat_cmp}
use Rattle.std.specs.List.{AllByRecursion, fold}
use Rattle.std.specs.Cmp.Lexicographic.{slice_cmp}
use Rattle.abs_path.specs.Paths.{Path, tail_of}

-- byte order of the texts; the root is first, with or without its `/`
abbrev pub is_before : Path → Path → Bool
is_before one other = is_lt (slice_cmp nat_cmp (tail_of one) (tail_of other))

-- each path precedes all later ones
abbrev pub AreAscending : List Path → Type 0
AreAscending [] = Unit {0}
AreAscending (path ∷ paths) = AllByRecursion (λ later. is_before path later ≡ true) paths × AreAscending paths

-- an ascending list with one more path in its place, unless the list has the path already
abbrev pub placed : Path → List Path → List Path
placed path [] = path ∷ []
placed path (first ∷ paths) = cond (is_before path first) (path ∷ first ∷ paths)
    (cond (is_before first path) (first ∷ placed path paths) (first ∷ paths))

-- an ascending list with more paths in their places
abbrev pub with_placed : List Path → List Path → List Path
with_placed sorted paths = fold (λ sorted path. placed path sorted) sorted paths

-- the paths in byte order, each once
abbrev pub in_byte_order : List Path → List Path
in_byte_order paths = with_placed [] paths
