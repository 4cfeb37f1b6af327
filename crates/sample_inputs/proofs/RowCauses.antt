-- The rows of a site by themselves: none has a cause of its own.
use Rattle.std.proofs.Common.{◌≡◌, ℕ, ◌&&◌, ◌||◌, not, Bool, false, Option, Some, None, List, [], ◌∷◌, is_none, refl, ap, ◌∙◌}
use Rattle.std.specs.Prelude.{find}
use Rattle.std.specs.Option.{option_map_or}
use Rattle.launcher.specs.abs_path.Paths.{Path}
use Rattle.toml.specs.Data.{Data}
use Rattle.launcher.specs.toml_shapes.Keys.{has_keys}
use Rattle.launcher.specs.site_table.Keys.{row_keys}
use Rattle.launcher.specs.site_table.Kinds.{is_dir, is_exe}
use Rattle.launcher.specs.site_table.Paths.{short_path}
use Rattle.launcher.specs.site_table.declared.error.RowCause.{RowCause}
use Rattle.launcher.specs.site_table.declared.error.RowCause.TheVariants.{Key, Path as BadPath, Kind, Number, Caps, Both}
use Rattle.launcher.specs.site_table.Rows.{path_of, kind_of, own_causes, has_exe_key, has_wrong_number, has_wrong_caps, has_both}
use Rattle.launcher.specs.site_table.Rows.{is_always_dir}
use Rattle.sample_inputs.specs.Site.{dir_row, exe_row, file_row, setuid_row}
use Rattle.sample_inputs.proofs.GoodRows.{no_cause}

-- the causes of a row by whether it has no path, and one that is always a directory's
abbrev causes_by : Data → Bool → Bool → List (Bool × RowCause)
causes_by row pathless always =
    (not (has_keys row_keys row), Key) ∷
    (pathless, BadPath) ∷
    (not (option_map_or (λ kind. (is_exe kind || not (has_exe_key row)) && (is_dir kind || not always)) (kind_of row) false), Kind) ∷
    (has_wrong_number row, Number) ∷
    (has_wrong_caps row, Caps) ∷
    (has_both row, Both) ∷ []

-- the first that applies
abbrev first_cause : Data → Bool → Bool → Option (Bool × RowCause)
first_cause row pathless always = find (λ cause. cause.0) (causes_by row pathless always)

by_path : (row : Data) (path : Path) → path_of row ≡ Some path → first_cause row false (is_always_dir path) ≡ None
    → no_cause (own_causes row)
by_path row path read none =
    ap (λ path. first_cause row (is_none path) (option_map_or is_always_dir path false)) read ∙ none

-- a directory may be any, and a file or an executable one that is not always a directory
pub dir_causes : (text : List ℕ) (path : Path) → short_path text ≡ Some path → no_cause (own_causes (dir_row text))
dir_causes text path read = by_path (dir_row text) path read refl

pub file_causes : (text : List ℕ) (path : Path) → short_path text ≡ Some path → is_always_dir path ≡ false
    → no_cause (own_causes (file_row text))
file_causes text path read other = by_path (file_row text) path read (ap (first_cause (file_row text) false) other)

pub exe_causes : (text : List ℕ) (path : Path) → short_path text ≡ Some path → is_always_dir path ≡ false
    → no_cause (own_causes (exe_row text))
exe_causes text path read other = by_path (exe_row text) path read (ap (first_cause (exe_row text) false) other)

pub setuid_causes : (text : List ℕ) (path : Path) → short_path text ≡ Some path → is_always_dir path ≡ false
    → no_cause (own_causes (setuid_row text 0))
setuid_causes text path read other = by_path (setuid_row text 0) path read (ap (first_cause (setuid_row text 0) false) other)
