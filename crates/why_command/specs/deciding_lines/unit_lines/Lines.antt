-- The assignments in force of a unit (systemd.unit(5), systemd.exec(5), systemd.service(5)).
use Rattle.std.specs.Prelude.{◌&&◌, Bool, cond, Option, Some, None, List}
use Rattle.std.specs.List.{filter_map}
use Rattle.asked_service.specs.unit_grammar.declared.unit.Assignment.{Assignment}
use Rattle.asked_service.specs.dropin_merge.declared.resolved.Resolved.{Resolved}
use Rattle.asked_service.specs.dropin_merge.declared.unit_values.value.Place.{Place}
use Rattle.asked_service.specs.dropin_merge.unit_values.Assignments.{is_of_service, service_assignments}
use Rattle.asked_service.specs.exec_settings.Keys.{is_read}
use Rattle.asked_service.specs.unit_names.declared.version.Version.{Version}
use Rattle.why_command.specs.declared.deciding_lines.unit_lines.line.UnitLine.{UnitLine}

-- an assignment of the service whose key is read: it is a setting, or refuses the unit
abbrev pub is_in_force : Option Version → Assignment → Bool
is_in_force systemd assignment = is_of_service assignment && is_read systemd assignment.key

-- one of the service, with its place, if its key is read
abbrev pub line_at : Option Version → Place × Assignment → Option UnitLine
line_at systemd one = cond (is_read systemd one.1.key) (Some (record { place = one.0; key = one.1.key; value = one.1.value })) None

-- over all files, in the order of files and lines
unfoldable pub lines_of : Resolved → List UnitLine
lines_of unit = filter_map (line_at unit.systemd) (service_assignments unit)
