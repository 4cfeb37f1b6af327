use Rattle.std.proofs.Common.{◌-◌, length}
use Rattle.seccomp_compile.specs.Placed.{NoneBefore}
use Rattle.seccomp_compile.proofs.emit.end_near.Given as goal

abbrev pub invariant-loop-skip : goal.invariant-loop-skip
invariant-loop-skip l = NoneBefore l.action l.code.items l.skip

abbrev pub decreases-loop-skip : goal.decreases-loop-skip
decreases-loop-skip l = length l.code.items - l.skip
