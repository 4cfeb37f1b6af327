use Rattle.std.proofs.Common.{◌≡◌, length}
use Rattle.ceilings.specs.kernel_laws.Launched.{launch_of}
use Rattle.open_calls.proofs.Keeping.{GainedFrom}
use Rattle.open_calls.proofs.gains.gains.Given as goal

-- what is kept of the capabilities below this number
abbrev pub invariant-loop-cap : goal.invariant-loop-cap
invariant-loop-cap l = (length l.list.items ≡ l.cap) × GainedFrom (launch_of l.world) 0 l.list.items
