use Rattle.std.proofs.Common.{◌≡◌, ◌++◌}
use Rattle.std.specs.List.{filter_map}
use Rattle.asked_service.specs.dropin_merge.unit_values.Assignments.{service_assignments}
use Rattle.asked_service.specs.dropin_merge.unit_values.Walk.{assignments_left}
use Rattle.why_command.specs.deciding_lines.unit_lines.Lines.{line_at}
use Rattle.why_command.proofs.deciding_lines.unit_lines.listing.lines.Given as goal

abbrev pub invariant-loop-place : goal.invariant-loop-place
invariant-loop-place l = l.lines.items ++ filter_map (line_at l.unit.systemd) (assignments_left l.place-iterator)
    ≡ filter_map (line_at l.unit.systemd) (service_assignments l.unit)
