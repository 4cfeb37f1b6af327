use Rattle.std.proofs.Common.{◌≡◌, ◌-◌, length}
use Rattle.dropin_merge.specs.unit_values.Walk.{assignments_left}
use Rattle.dropin_merge.proofs.unit_values.assignments.ServiceAssignmentsIterator.next.Given as goal

abbrev pub invariant-loop-assignment : goal.invariant-loop-assignment
invariant-loop-assignment l = assignments_left l.initial.self ≡ assignments_left l.self

abbrev pub decreases-loop-assignment : goal.decreases-loop-assignment
decreases-loop-assignment l = length l.self.files.now - l.self.begun
