use Rattle.std.proofs.Common.{◌≡◌, length}
use Rattle.std.specs.List.{filter_map}
use Rattle.dropin_merge.specs.Spots.{assignment_at}
use Rattle.dropin_merge.proofs.unit_values.keyed.split_first_found.Given as goal

abbrev pub invariant-loop-first : goal.invariant-loop-first
invariant-loop-first l = filter_map (assignment_at l.files) l.spots ≡ filter_map (assignment_at l.files) l.left

abbrev pub decreases-loop-first : goal.decreases-loop-first
decreases-loop-first l = length l.left
