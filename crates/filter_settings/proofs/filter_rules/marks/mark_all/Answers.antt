use Rattle.std.proofs.Common.{None, get_or, arith}
use Rattle.filter_settings.proofs.Marked.{one_more}
use Rattle.filter_settings.proofs.filter_rules.marks.mark_all.Goals as goal

pub loop-place-preserved : goal.loop-place-preserved
loop-place-preserved c = λ at lt.
    one_more c.args.places.now c.loop-place.place-index c.args.what at (get_or c.args.marks.now at None) (get_or c.loop-place.marks at None)
    (get_or c.mark_place.new.marks at None) (omega arith) (c.loop-place.invariant at lt) (c.mark_place.ensures at (omega arith))
