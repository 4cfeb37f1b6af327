-- The assignments of files in the section of the service (systemd.unit(5), systemd.service(5)).
use Rattle.std.specs.Prelude.{ℕ, Bool, codes, List, map, filter, flat_map}
use Rattle.std.specs.List.{enumerate_from}
use Rattle.std.specs.Str.{bytes_eq}
use Rattle.unit_grammar.specs.declared.unit.Assignment.{Assignment}
use Rattle.dropin_merge.specs.declared.resolved.UnitFile.{UnitFile}
use Rattle.dropin_merge.specs.declared.unit_values.value.Place.{Place}

-- the service has the section `[Service]`
abbrev pub is_of_service : Assignment → Bool
is_of_service assignment = bytes_eq assignment.section (codes "Service")

-- an assignment of the file of this number, with its place
abbrev pub placed : ℕ → Assignment → Place × Assignment
placed file assignment = (record { file = file; line = assignment.line }, assignment)

abbrev pub service_in : ℕ → List Assignment → List (Place × Assignment)
service_in file assignments = map (placed file) (filter is_of_service assignments)

-- the assignments of files that are numbered from this number
abbrev pub service_from : ℕ → List UnitFile → List (Place × Assignment)
service_from number files = flat_map (λ file. service_in file.0 file.1.text.assignments) (enumerate_from number files)
