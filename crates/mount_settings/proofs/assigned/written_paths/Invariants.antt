use Rattle.std.proofs.Common.{◌≡◌, [], ◌++◌}
use Rattle.std.specs.Prelude.{flat_map}
use Rattle.std.specs.List.{filter_map}
use Rattle.dropin_merge.specs.unit_values.Assignments.{service_assignments}
use Rattle.dropin_merge.specs.unit_values.Walk.{assignments_left}
use Rattle.mount_settings.specs.Assigned.{assigned_by, assigned_of, dialect_of}
use Rattle.mount_settings.specs.Notes.{notes_by}
use Rattle.mount_settings.specs.Steps.{after}
use Rattle.mount_settings.proofs.assigned.written_paths.Given as goal

abbrev pub invariant-loop-place : goal.invariant-loop-place
invariant-loop-place l = record {
  means : after (dialect_of l.unit.systemd) [] (assigned_of l.unit) ≡ after (dialect_of l.unit.systemd) l.paths.items (filter_map (assigned_by l.unit.systemd l.unit.name) (assignments_left l.place-iterator));
  noted : flat_map (notes_by l.unit.systemd l.unit.name) (service_assignments l.unit)
      ≡ l.notes.items ++ flat_map (notes_by l.unit.systemd l.unit.name) (assignments_left l.place-iterator);
}
