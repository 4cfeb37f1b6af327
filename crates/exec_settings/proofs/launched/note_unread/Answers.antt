use Rattle.std.proofs.Common.{arith}
use Rattle.exec_settings.specs.Launched.{unread_note}
use Rattle.cred_settings.proofs.OfDropinMerge.OneMore.{added_by_some}
use Rattle.exec_settings.proofs.launched.note_unread.Goals as goal

pub loop-value-preserved : goal.loop-value-preserved
loop-value-preserved c = added_by_some (unread_note c.args.unit.now) c.args.values.now c.loop-value.value-index c.value-item.result _ _ _
    (omega arith) c.value-item.is c.loop-value.invariant c.in_ok-note_if_unread.ensures
