use Rattle.launcher.proofs.Mounted.{Mounting}
use Rattle.launcher.proofs.mounting.mount_each.Given as goal

abbrev pub invariant-loop-entry : goal.invariant-loop-entry
invariant-loop-entry l = Mounting l.initial.world l.world l.entries l.entry-index
