use Rattle.std.proofs.Common.{◌≡◌, ◌++◌}
use Rattle.std.specs.List.{filter_map}
use Rattle.cred_settings.specs.dropin_merge.unit_values.Assignments.{service_assignments}
use Rattle.cred_settings.specs.dropin_merge.unit_values.Walk.{assignments_left}
use Rattle.exec_settings.specs.Judged.{unjudged_at}
use Rattle.exec_settings.proofs.judged.note_unjudged.Given as goal

abbrev pub invariant-loop-place : goal.invariant-loop-place
invariant-loop-place l = l.notes.items ++ filter_map (unjudged_at l.unit.systemd) (assignments_left l.place-iterator)
    ≡ l.fn.notes.items ++ filter_map (unjudged_at l.unit.systemd) (service_assignments l.unit)
