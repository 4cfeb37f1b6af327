-- A text as the path of a setting (systemd.exec(5)): it is absolute, and at most 250 bytes long once it is folded.
use Rattle.std.specs.Prelude.{ℕ, List, Option, Some, None, if◌then◌else◌}
use Rattle.abs_path.specs.Paths.{Path, parts_of}
use Rattle.abs_path.specs.Read.{fault_of}
use Rattle.path_settings.specs.Short.{is_short_path}
use Rattle.abs_path.specs.declared.error.PathError.{PathError}

abbrev pub if_short : Path → Option Path
if_short path = if is_short_path path then Some path else None

abbrev pub unless_fault : Option PathError → Path → Option Path
unless_fault None path = if_short path
unless_fault (Some fault) path = None

abbrev pub setting_path : List ℕ → Option Path
setting_path text = unless_fault (fault_of text) (parts_of text)
