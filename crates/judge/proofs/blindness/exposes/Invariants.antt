use Rattle.std.proofs.Common.{◌≡◌, drop}
use Rattle.ceilings.specs.kernel_laws.Blind.{exposes}
use Rattle.ceilings.specs.kern_mounts.Mounts.{steps_of}
use Rattle.judge.proofs.blindness.exposes.Given as goal

-- what is looked for stands from here on
abbrev pub invariant-loop-at : goal.invariant-loop-at
invariant-loop-at l = exposes l.uncover l.folder (drop l.at (steps_of l.table)) ≡ exposes l.uncover l.folder (steps_of l.table)
