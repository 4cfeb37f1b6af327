use Rattle.std.proofs.Common.{◌≡◌, ◌++◌, drop}
use Rattle.kernel_ways.specs.kernel_laws.Launched.{launch_of}
use Rattle.ceilings.specs.Owners.{given_ids}
use Rattle.ceilings.proofs.ids.push_given.Given as goal

-- what was added, and what is left to add
abbrev pub invariant-loop-row : goal.invariant-loop-row
invariant-loop-row l =
    l.ids.items ++ given_ids l.kind (launch_of l.world) l.power (drop l.row-index l.rows)
    ≡ l.initial.ids.items ++ given_ids l.kind (launch_of l.world) l.power l.rows
