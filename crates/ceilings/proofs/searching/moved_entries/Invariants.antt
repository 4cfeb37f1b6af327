use Rattle.std.proofs.Common.{◌≡◌, ◌++◌, drop, map}
use Rattle.kernel_ways.specs.kern_mounts.Mounts.{steps_of}
use Rattle.ceilings.specs.Leads.{is_moved}
use Rattle.ceilings.proofs.searching.moved_entries.Given as goal

-- what was found, and what is left to find
abbrev pub invariant-loop-at : goal.invariant-loop-at
invariant-loop-at l = l.list.items ++ map is_moved (drop l.at (steps_of l.table)) ≡ map is_moved (steps_of l.table)
