-- The rows of a table, in byte order of their paths.
use Rattle.std.specs.Prelude.{◌≡◌, ℕ, ◌<◌, ◌≤◌, Bool, true, false, not, cond, filter, map, List, [], ◌∷◌, ◌++◌, length, slice_index_or}
use Rattle.std.specs.Prelude.{insert, None, Result, Ok, Err}
use Rattle.std.specs.List.{list_any, fold}
use Rattle.std.specs.Ordering.{nat_cmp}
use Rattle.std.specs.declared.cmp.Ordering.TheVariants.{Less, Greater}
use Rattle.std.specs.Cmp.Lexicographic.{slice_cmp}
use Rattle.abs_path.specs.Paths.{Path, tail_of, is_normal, proc}
use Rattle.abs_path.specs.Prefix.{is_same}
use Rattle.abs_path.specs.ByteOrder.{is_before, AreAscending}
use Rattle.cap_sets.specs.Sets.{none}
use Rattle.site_table.specs.declared.row.Row.{Row}
use Rattle.site_table.specs.declared.kinds.RowKind.TheVariants.{Dir}
use Rattle.site_table.specs.Paths.{root}
use Rattle.site_table.specs.Table.{AreNormal}

-- a directory without further properties
abbrev pub plain_dir : Path → Row
plain_dir path = record { path = path; kind = Dir; setuid = None; setgid = None; caps = none; effective = false }

-- some row has this path
abbrev pub has_row : List Row → Path → Bool
has_row rows path = list_any (λ row. is_same row.path path) rows

-- the listed rows, with `/` and `/proc` if they are not listed
abbrev pub with_fixed : List Row → List Row
with_fixed listed = listed ++ filter (λ row. not (has_row listed row.path)) (plain_dir root ∷ plain_dir proc ∷ [])

-- the rows in order with one more row in its place, unless they have its path already
abbrev pub row_placed : Row → List Row → List Row
row_placed row [] = row ∷ []
row_placed row (first ∷ rows) = cond (is_before row.path first.path) (row ∷ first ∷ rows)
    (cond (is_before first.path row.path) (first ∷ row_placed row rows) (first ∷ rows))

abbrev pub rows_in_order : List Row → List Row
rows_in_order rows = fold (λ sorted row. row_placed row sorted) [] rows

-- the rows have normal paths, and each path precedes the later ones
pub record AreOrdered (rows : List Row) : Type 0 where
  pub ascending : AreAscending (map (λ row. row.path) rows)
  pub normal : AreNormal rows

-- the row at a place has the path of this text
pub record IsAt (rows : List Row) (text : List ℕ) (at : ℕ) : Type 0 where
  pub within : at < length rows
  pub here : (d : Row) → tail_of (slice_index_or rows at d).path ≡ text

-- the rows before a place have texts before this one, and the others have texts after it
pub record IsGap (rows : List Row) (text : List ℕ) (at : ℕ) : Type 0 where
  pub within : at ≤ length rows
  pub before : (k : ℕ) (d : Row) → k < at → slice_cmp nat_cmp (tail_of (slice_index_or rows k d).path) text ≡ Less
  pub behind : (k : ℕ) (d : Row) → at ≤ k → k < length rows → slice_cmp nat_cmp (tail_of (slice_index_or rows k d).path) text ≡ Greater

-- the answer of a search for the row of a text
abbrev pub Searches : List Row → List ℕ → Result ℕ ℕ → Type 0
Searches rows text (Ok at) = IsAt rows text at
Searches rows text (Err at) = IsGap rows text at

-- a row of this path has this place among rows in order
pub record GoesAt (rows : List Row) (path : Path) (at : ℕ) : Type 0 where
  pub ordered : AreOrdered rows
  pub within : at ≤ length rows
  pub absent : has_row rows path ≡ false
  pub normal : is_normal path ≡ true
  pub placed : (row : Row) → row.path ≡ path → row_placed row rows ≡ insert rows at row
