use Rattle.std.proofs.Common.{false, get_or, arith}
use Rattle.std.specs.Prelude.{◌==◌}
use Rattle.derive_command.proofs.UsedMarks.{one_less}
use Rattle.derive_command.proofs.trace_profile.used.clear_all.Goals as goal

pub loop-place-preserved : goal.loop-place-preserved
loop-place-preserved c = λ at lt.
    one_less (λ place. place == at) c.args.places.now c.loop-place.place-index (omega arith)
    (get_or c.args.marks.now at false) (get_or c.loop-place.marks at false) (get_or c.clear.new.marks at false)
    (c.loop-place.invariant at lt) (c.clear.ensures at (omega arith))
