-- A row of the file describes a file, or has a fault.
use Rattle.std.specs.Prelude.{ℕ, Bool, true, false, not, ◌&&◌, ◌||◌, codes, is_some, is_none, List, [], ◌∷◌, ◌++◌, find, Option, option_map}
use Rattle.std.specs.Prelude.{option_and_then, unwrap_or}
use Rattle.std.specs.List.{list_any}
use Rattle.std.specs.Option.{option_map_or}
use Rattle.toml.specs.Data.{Data, get}
use Rattle.abs_path.specs.Paths.{Path, proc}
use Rattle.abs_path.specs.Prefix.{is_same}
use Rattle.site_table.specs.declared.kinds.RowKind.{RowKind}
use Rattle.site_table.specs.declared.kinds.RowKind.TheVariants.{Dir}
use Rattle.site_table.specs.declared.row.Row.{Row}
use Rattle.site_table.specs.declared.error.RowCause.{RowCause}
use Rattle.site_table.specs.declared.error.RowCause.TheVariants.{Key, Path as BadPath, Kind, Number, Caps, Both, Duplicate, NoParent}
use Rattle.toml_shapes.specs.Tree.{text_at, flag_at, elements_at}
use Rattle.toml_shapes.specs.Keys.{has_keys}
use Rattle.site_table.specs.Keys.{row_keys}
use Rattle.site_table.specs.Kinds.{kind_named, is_dir, is_exe}
use Rattle.site_table.specs.Ids.{id_at, is_out_of_range}
use Rattle.site_table.specs.Caps.{are_caps, caps_of}
use Rattle.site_table.specs.Paths.{short_path, parent_of, root}

abbrev pub path_of : Data → Option Path
path_of row = option_and_then short_path (text_at (codes "path") row)

abbrev pub kind_of : Data → Option RowKind
kind_of row = option_and_then kind_named (text_at (codes "kind") row)

-- the names of a row's capabilities
abbrev pub cap_names : Data → List Data
cap_names row = elements_at (codes "caps") row

abbrev pub has : List ℕ → Data → Bool
has key row = is_some (get key row)

abbrev pub is_empty : List Data → Bool
is_empty [] = true
is_empty (value ∷ values) = false

-- the row has a key that only an executable may have
abbrev pub has_exe_key : Data → Bool
has_exe_key row = has (codes "setuid") row || has (codes "setgid") row || has (codes "caps") row || has (codes "effective") row

-- the root and the folder of the processes are directories
abbrev pub is_always_dir : Path → Bool
is_always_dir path = is_same path root || is_same path proc

-- a row with a key of executables is an executable, and `/` and `/proc` are directories
abbrev pub may_be : RowKind → Data → Bool
may_be kind row = (is_exe kind || not (has_exe_key row)) && (is_dir kind || not (option_map_or is_always_dir (path_of row) false))

abbrev pub has_wrong_kind : Data → Bool
has_wrong_kind row = not (option_map_or (λ kind. may_be kind row) (kind_of row) false)

abbrev pub has_wrong_number : Data → Bool
has_wrong_number row = is_out_of_range (codes "setuid") row || is_out_of_range (codes "setgid") row

-- the row has an unknown capability, or `effective` without capabilities
abbrev pub has_wrong_caps : Data → Bool
has_wrong_caps row = not (are_caps (cap_names row)) || (has (codes "effective") row && is_empty (cap_names row))

-- the row has both an owner's uid and capabilities
abbrev pub has_both : Data → Bool
has_both row = has (codes "setuid") row && not (is_empty (cap_names row))

-- the row has this path
abbrev pub is_row_at : Path → Data → Bool
is_row_at path row = option_map_or (λ own. is_same own path) (path_of row) false

-- an earlier row has the path
abbrev pub is_duplicate : List Data → Data → Bool
is_duplicate before row = option_map_or (λ path. list_any (is_row_at path) before) (path_of row) false

-- the row is a directory of this path, whatever else it has
abbrev pub is_dir_at : Path → Data → Bool
is_dir_at path row = is_row_at path row && option_map_or is_dir (kind_of row) false

-- a row may be in this folder: it is always a directory, or a directory is listed for it
abbrev pub is_folder : List Data → Path → Bool
is_folder rows path = is_always_dir path || list_any (is_dir_at path) rows

-- the row is the root or is in a folder
abbrev pub has_parent : List Data → Data → Bool
has_parent rows row = option_map_or (is_folder rows) (option_and_then parent_of (path_of row)) true

-- the faults of a row on its own, in the order of the reports
abbrev pub own_causes : Data → List (Bool × RowCause)
own_causes row =
    (not (has_keys row_keys row), Key) ∷
    (is_none (path_of row), BadPath) ∷
    (has_wrong_kind row, Kind) ∷
    (has_wrong_number row, Number) ∷
    (has_wrong_caps row, Caps) ∷
    (has_both row, Both) ∷ []

-- the faults of a row's place among all rows, and among the rows before it
abbrev pub place_causes : List Data → List Data → Data → List (Bool × RowCause)
place_causes rows before row = (is_duplicate before row, Duplicate) ∷ (not (has_parent rows row), NoParent) ∷ []

-- the first fault that applies
abbrev pub first_of : List (Bool × RowCause) → Option RowCause
first_of causes = option_map (λ cause. cause.1) (find (λ cause. cause.0) causes)

-- the first fault of a row
abbrev pub cause_of : List Data → List Data → Data → Option RowCause
cause_of rows before row = first_of (own_causes row ++ place_causes rows before row)

-- the file of a row that has no fault
abbrev pub row_of : Data → Row
row_of row = record {
  path = unwrap_or (path_of row) root;
  kind = unwrap_or (kind_of row) Dir;
  setuid = id_at (codes "setuid") row;
  setgid = id_at (codes "setgid") row;
  caps = caps_of (cap_names row);
  effective = unwrap_or (flag_at (codes "effective") row) false;
}
