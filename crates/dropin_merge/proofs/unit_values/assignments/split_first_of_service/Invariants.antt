use Rattle.std.proofs.Common.{◌≡◌, length}
use Rattle.std.specs.Prelude.{filter}
use Rattle.dropin_merge.specs.unit_values.Assignments.{is_of_service}
use Rattle.dropin_merge.proofs.unit_values.assignments.split_first_of_service.Given as goal

abbrev pub invariant-loop-first : goal.invariant-loop-first
invariant-loop-first l = filter is_of_service l.assignments ≡ filter is_of_service l.left

abbrev pub decreases-loop-first : goal.decreases-loop-first
decreases-loop-first l = length l.left
