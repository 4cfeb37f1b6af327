use Rattle.std.proofs.Common.{◌≡◌, take}
use Rattle.kern_mounts.proofs.table.copied.Given as goal

abbrev pub invariant-loop-mount : goal.invariant-loop-mount
invariant-loop-mount l = l.copies.items ≡ take l.mount-index l.mounts
