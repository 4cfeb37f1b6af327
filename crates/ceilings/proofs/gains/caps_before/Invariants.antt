use Rattle.std.proofs.Common.{◌≡◌, drop}
use Rattle.kernel_ways.specs.cap_sets.Sets.{union}
use Rattle.kernel_ways.specs.kernel_laws.Bound.{gathered, gain_at, caps_before}
use Rattle.kernel_ways.specs.kernel_laws.Launched.{launch_of}
use Rattle.ceilings.proofs.gains.caps_before.Given as goal

-- what was gathered, and what is left to gather
abbrev pub invariant-loop-row : goal.invariant-loop-row
invariant-loop-row l =
    union l.caps (gathered (gain_at (launch_of l.world) l.power) (drop l.row-index l.rows)) ≡ caps_before (launch_of l.world) l.power
