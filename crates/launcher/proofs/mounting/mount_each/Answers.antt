use Rattle.launcher.proofs.Mounted.{mounted_more}
use Rattle.launcher.proofs.mounting.mount_each.Goals as goal

pub loop-entry-preserved : goal.loop-entry-preserved
loop-entry-preserved c = mounted_more c.args.world.now c.loop-entry.world c.mount_step.new.self c.args.entries.now
    c.loop-entry.entry-index c.entry-item.result c.loop-entry-test.true c.entry-item.is c.loop-entry.invariant
    c.in_ok-mount_step.ensures.mounts
