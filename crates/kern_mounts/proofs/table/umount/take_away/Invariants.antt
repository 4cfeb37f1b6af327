use Rattle.std.specs.Prelude.{not}
use Rattle.kern_mounts.specs.Mounts.{stands_below}
use Rattle.kern_mounts.proofs.Going.{Gone}
use Rattle.kern_mounts.proofs.table.umount.take_away.Given as goal

-- the mounts before this number are looked at
abbrev pub invariant-loop-index : goal.invariant-loop-index
invariant-loop-index l = Gone (λ mount. not (stands_below l.path mount)) l.initial.mounts.items l.mounts.items l.at l.kept l.index
