use Rattle.std.proofs.Common.{◌≡◌, drop, false}
use Rattle.kernel_ways.specs.kernel_laws.Reach.{reach_from}
use Rattle.kernel_ways.specs.kern_mounts.Mounts.{steps_of}
use Rattle.ceilings.proofs.searching.first_from.Given as goal

-- what is looked for stands from here on
abbrev pub invariant-loop-at : goal.invariant-loop-at
invariant-loop-at l =
    reach_from false l.row l.wish (drop l.at (steps_of l.search.table.now)) l.at
    ≡ reach_from false l.row l.wish (drop l.from (steps_of l.search.table.now)) l.from
