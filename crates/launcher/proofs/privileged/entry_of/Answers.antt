use Rattle.launcher.proofs.Found.{found_more}
use Rattle.launcher.proofs.privileged.entry_of.Goals as goal

pub loop-entry-preserved : goal.loop-entry-preserved
loop-entry-preserved c = found_more c.args.plan.now c.args.path.now c.loop-entry.entry-index c.entry-item.result _ _
    c.loop-entry-test.true c.entry-item.is c.loop-entry.invariant c.nearer-found.ensures
