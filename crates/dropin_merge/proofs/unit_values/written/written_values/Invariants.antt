use Rattle.std.proofs.Common.{◌≡◌, ◌++◌}
use Rattle.std.specs.List.{filter_map}
use Rattle.dropin_merge.specs.unit_values.Assignments.{service_assignments}
use Rattle.dropin_merge.specs.KeyWalk.{key_left}
use Rattle.dropin_merge.specs.unit_values.Values.{written_by}
use Rattle.dropin_merge.proofs.unit_values.written.written_values.Given as goal

abbrev pub invariant-loop-place : goal.invariant-loop-place
invariant-loop-place l =
    filter_map (written_by l.key) (service_assignments l.unit)
    ≡ l.values.items ++ filter_map (written_by l.key) (key_left l.place-iterator)
