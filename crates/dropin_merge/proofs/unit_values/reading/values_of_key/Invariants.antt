use Rattle.std.proofs.Common.{◌≡◌, ◌++◌}
use Rattle.std.specs.List.{filter_map}
use Rattle.dropin_merge.specs.unit_values.Assignments.{service_assignments}
use Rattle.dropin_merge.specs.KeyWalk.{key_left}
use Rattle.dropin_merge.specs.unit_values.Values.{given_by, note_of}
use Rattle.dropin_merge.proofs.unit_values.reading.values_of_key.Given as goal

abbrev pub invariant-loop-place : goal.invariant-loop-place
invariant-loop-place l = record {
  values : filter_map (given_by l.unit.systemd l.unit.name l.key) (service_assignments l.unit)
      ≡ l.values.items ++ filter_map (given_by l.unit.systemd l.unit.name l.key) (key_left l.place-iterator);
  notes : filter_map (note_of l.unit.systemd l.unit.name l.key) (service_assignments l.unit)
      ≡ l.notes.items ++ filter_map (note_of l.unit.systemd l.unit.name l.key) (key_left l.place-iterator);
}
