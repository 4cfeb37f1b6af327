use Rattle.std.proofs.Common.{◌≡◌, drop}
use Rattle.kernel_laws.specs.Reach.{first_with}
use Rattle.reach_paths.specs.Needs.{allows}
use Rattle.kernel_laws.specs.kern_mounts.Mounts.{steps_of}
use Rattle.reach_paths.proofs.first.first_that_serves.Given as goal

-- what is looked for stands from here on
abbrev pub invariant-loop-at : goal.invariant-loop-at
invariant-loop-at l =
    first_with l.uncover l.row (allows l.need) (drop l.at (steps_of l.table)) l.at ≡ first_with l.uncover l.row (allows l.need) (steps_of l.table) 0
