use Rattle.std.proofs.Common.{◌≡◌, drop}
use Rattle.std.specs.List.{list_any}
use Rattle.kernel_ways.specs.kernel_laws.Launched.{launch_of, lets_line}
use Rattle.ceilings.proofs.ruled.lets_some.Given as goal

-- none of the calls so far passes
abbrev pub invariant-loop-at : goal.invariant-loop-at
invariant-loop-at l = list_any (lets_line (launch_of l.world) l.kind) (drop l.at l.lines)
    ≡ list_any (lets_line (launch_of l.world) l.kind) l.lines
