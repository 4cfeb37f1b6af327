use Rattle.dropin_merge.proofs.Spotting.{one_more_empty}
use Rattle.dropin_merge.proofs.spots.empty_buckets.Goals as goal

pub loop-alloc-preserved : goal.loop-alloc-preserved
loop-alloc-preserved c = one_more_empty c.loop-alloc.buckets.items _ c.empty.result c.loop-alloc.invariant c.empty.ensures.holds_nothing
    c.in_ok-push.ensures.items
