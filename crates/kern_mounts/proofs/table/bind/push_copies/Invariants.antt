use Rattle.std.proofs.Common.{drop, take}
use Rattle.kern_mounts.specs.Pushed.{HasCopies}
use Rattle.kern_mounts.proofs.table.bind.push_copies.Given as goal

abbrev pub invariant-loop-index : goal.invariant-loop-index
invariant-loop-index l = HasCopies l.fn.mounts.items l.mounts.items (drop l.from (take l.index l.fn.mounts.items)) l.source l.target
