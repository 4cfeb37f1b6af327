use Rattle.std.proofs.Common.{◌≡◌, ◌-◌, [], length, replicate}
use Rattle.dropin_merge.proofs.spots.empty_buckets.Given as goal

abbrev pub invariant-loop-alloc : goal.invariant-loop-alloc
invariant-loop-alloc l = l.buckets.items ≡ replicate (length l.buckets.items) []

abbrev pub decreases-loop-alloc : goal.decreases-loop-alloc
decreases-loop-alloc l = 64 - length l.buckets.items
