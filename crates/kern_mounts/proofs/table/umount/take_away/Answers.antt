use Rattle.std.proofs.Common.{◌∙◌, arith}
use Rattle.kern_mounts.proofs.Going.{gone_start, gone_all}
use Rattle.kern_mounts.proofs.table.umount.take_away.Goals as goal

pub loop-index-init : goal.loop-index-init
loop-index-init c = gone_start _ _ _

pub returns : goal.returns
returns c = record {
  the_mount_and_below = c.truncate.ensures.items
      ∙ gone_all _ _ _ _ _ _ c.loop-index.invariant (omega (arith, c.args.mounts.now.ok.0));
}
