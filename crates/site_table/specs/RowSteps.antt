-- The reader of rows answers step by step.
use Rattle.std.specs.Prelude.{◌≡◌, ⊤, ℕ, ◌||◌, ◌&&◌, codes, cond, Bool, true, false, not, List, [], ◌∷◌, drop, Option, Some, None}
use Rattle.std.specs.Prelude.{option_map, Result, Ok, Err}
use Rattle.std.specs.Option.{option_map_or}
use Rattle.std.specs.List.{list_any}
use Rattle.std.specs.Str.{bytes_eq}
use Rattle.site_table.specs.Kinds.{is_dir}
use Rattle.toml.specs.Data.{Data}
use Rattle.cap_sets.specs.Sets.{none}
use Rattle.site_table.specs.declared.kinds.RowKind.{RowKind}
use Rattle.abs_path.specs.Paths.{Path, tail_of, proc}
use Rattle.site_table.specs.declared.row.Row.{Row}
use Rattle.site_table.specs.declared.error.RowCause.{RowCause}
use Rattle.site_table.specs.declared.error.RowCause.TheVariants.{Duplicate, NoParent}
use Rattle.site_table.specs.declared.error.SiteError.{SiteError}
use Rattle.site_table.specs.declared.error.SiteError.TheVariants.{NotToml, Top, TooMany, Row as BadRow, User as BadUser, Group as BadGroup}
use Rattle.site_table.specs.declared.error.SiteError.TheVariants.{Memory}
use Rattle.site_table.specs.Paths.{parent_of, root}
use Rattle.site_table.specs.Rows.{first_of, own_causes, row_of, kind_of, path_of}
use Rattle.site_table.specs.Order.{has_row, row_placed, plain_dir}
use Rattle.site_table.specs.Texts.{has_text}

-- `is_always_dir` by the text of the path, which is empty for the root
abbrev pub is_always_dir_text : List ℕ → Bool
is_always_dir_text text = bytes_eq text [] || bytes_eq text (codes "/proc")

-- the row is a directory whose path has this text
abbrev pub is_folder_at : List ℕ → Data → Bool
is_folder_at text row = option_map_or is_dir (kind_of row) false && option_map_or (λ path. bytes_eq text (tail_of path)) (path_of row) false

-- one of the rows is a directory whose path has this text
abbrev pub has_folder : List Data → List ℕ → Bool
has_folder rows text = list_any (is_folder_at text) rows

-- the set has one more text if the row is a directory with a path
abbrev pub TakesFolder : List (List ℕ) → Data → List (List ℕ) → Type 0
TakesFolder old row new = (text : List ℕ) → has_text new text ≡ (has_text old text || is_folder_at text row)

-- the rows with a directory of this path, unless they have a row of the path
abbrev pub dir_placed : Path → List Row → List Row
dir_placed path rows = cond (has_row rows path) rows (row_placed (plain_dir path) rows)

-- rows with `/` and `/proc` among them
abbrev pub fixed_placed : List Row → List Row
fixed_placed rows = dir_placed proc (dir_placed root rows)

-- a file with only a path and a kind
abbrev pub plain_file : Path → RowKind → Row
plain_file path kind = record { path = path; kind = kind; setuid = None; setgid = None; caps = none; effective = false }

-- the file of a row with good keys and a path, or the first fault of the row
abbrev pub SaysFile : Data → Result Row RowCause → Type 0
SaysFile row (Ok said) = (first_of (drop 2 (own_causes row)) ≡ None) × (said ≡ row_of row)
SaysFile row (Err cause) = first_of (drop 2 (own_causes row)) ≡ Some cause

-- the refusal of the row of this number, for this cause
abbrev pub IsRefused : ℕ → Option RowCause → SiteError → Type 0
IsRefused number cause Memory = ⊤
IsRefused number cause NotToml = ⊥
IsRefused number cause Top = ⊥
IsRefused number cause TooMany = ⊥
IsRefused number cause (BadRow told why) = (told ≡ number) × (cause ≡ Some why)
IsRefused number cause (BadUser told) = ⊥
IsRefused number cause (BadGroup told) = ⊥

-- the row on its own, or its first own fault
abbrev pub SaysRow : ℕ → Data → Result Row SiteError → Type 0
SaysRow number row (Ok said) = (first_of (own_causes row) ≡ None) × (said ≡ row_of row)
SaysRow number row (Err error) = IsRefused number (first_of (own_causes row)) error

-- the path is the root, or its folder always exists or has one of these texts
abbrev pub stands_in : List (List ℕ) → Path → Bool
stands_in folders path = option_map_or (λ text. is_always_dir_text text || has_text folders text) (option_map tail_of (parent_of path)) true

-- the faults of the place of a row among others
abbrev pub causes_among : List (List ℕ) → List Row → Path → List (Bool × RowCause)
causes_among folders rows path = (has_row rows path, Duplicate) ∷ (not (stands_in folders path), NoParent) ∷ []

-- the row is put in its place among the others, or refused
abbrev pub Places : ℕ → List (List ℕ) → List Row → Row → List Row → Result (Unit {0}) SiteError → Type 0
Places number folders rows row placed (Ok done) = (first_of (causes_among folders rows row.path) ≡ None) × (placed ≡ row_placed row rows)
Places number folders rows row placed (Err error) = IsRefused number (first_of (causes_among folders rows row.path)) error

-- one of the rows is a directory whose path has this text
abbrev pub has_dir_row : List Row → List ℕ → Bool
has_dir_row rows text = list_any (λ row. is_dir row.kind && bytes_eq text (tail_of row.path)) rows

-- the path is the root, or its folder always exists or is one of the rows
abbrev pub stands_behind : List Row → Path → Bool
stands_behind rows path = option_map_or (λ text. is_always_dir_text text || has_dir_row rows text)
    (option_map tail_of (parent_of path)) true

-- the row has no fault of its own, a new path and its folder among the rows, and is put in its place among them
abbrev pub PlacesBehind : List Row → Data → List Row → Type 0
PlacesBehind rows row placed = (first_of (own_causes row) ≡ None) × (placed ≡ row_placed (row_of row) rows) ×
    (has_row rows (row_of row).path ≡ false) × (stands_behind rows (row_of row).path ≡ true)
