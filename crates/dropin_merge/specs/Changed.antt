-- A version of systemd may read a unit, and a unit may get one more file (systemd.unit(5)).
use Rattle.std.specs.Prelude.{Option, [], ◌∷◌, ◌++◌}
use Rattle.unit_grammar.specs.declared.unit.UnitText.{UnitText}
use Rattle.unit_names.specs.declared.version.Version.{Version}
use Rattle.dropin_merge.specs.declared.resolved.Resolved.{Resolved}

-- the unit keeps its name and its files
abbrev pub read_by : Option Version → Resolved → Resolved
read_by systemd unit = record unit { systemd = systemd }

-- one more file, which has no path, follows the files of the unit
abbrev pub extended : Resolved → UnitText → Resolved
extended unit more = record unit { files = unit.files ++ record { path = []; text = more } ∷ [] }
