use Rattle.std.proofs.Common.{◌≡◌, take}
use Rattle.kern_mounts.specs.Copying.{locked_copy}
use Rattle.kern_mounts.proofs.table.copied_locked.Given as goal

abbrev pub invariant-loop-mount : goal.invariant-loop-mount
invariant-loop-mount l = l.copies.items ≡ locked_copy (take l.mount-index l.mounts)
