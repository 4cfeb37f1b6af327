use Rattle.std.proofs.Common.{arith}
use Rattle.exec_settings.specs.Launched.{is_command}
use Rattle.exec_settings.proofs.Seen.{any_next, later_next}
use Rattle.exec_settings.proofs.launched.note_later.Goals as goal

pub loop-value-preserved : goal.loop-value-preserved
loop-value-preserved c = (
  any_next (is_command c.args.unit.now) c.args.values.now c.loop-value.value-index c.value-item.result _ _
      (omega arith) c.value-item.is c.loop-value.invariant.0 c.in_ok-seen.ensures.seen,
  later_next c.args.unit.now c.args.values.now c.loop-value.value-index c.value-item.result _ _ _ _
      (omega arith) c.value-item.is c.loop-value.invariant.0 c.loop-value.invariant.1 c.in_ok-seen.ensures.noted,
)
