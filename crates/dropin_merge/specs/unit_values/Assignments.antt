-- The assignments of a unit's service (systemd.unit(5), systemd.service(5)).
use Rattle.std.specs.Prelude.{List, map, filter}
use Rattle.unit_grammar.specs.declared.unit.Assignment.{Assignment}
use Rattle.dropin_merge.specs.declared.resolved.Resolved.{Resolved}
use Rattle.dropin_merge.specs.declared.resolved.UnitFile.{UnitFile}
use Rattle.dropin_merge.specs.declared.unit_values.value.Place.{Place}
pub use Rattle.dropin_merge.specs.unit_values.Service.{is_of_service, placed, service_in, service_from}

-- the assignments of all files, in the order of files and lines
unfoldable pub service_assignments : Resolved → List (Place × Assignment)
service_assignments unit = service_from 0 unit.files

-- the unit without the assignments of other sections
abbrev pub without_others : UnitFile → UnitFile
without_others file = record file { text = record file.text { assignments = filter is_of_service file.text.assignments } }

abbrev pub service_alone : Resolved → Resolved
service_alone unit = record unit { files = map without_others unit.files }
