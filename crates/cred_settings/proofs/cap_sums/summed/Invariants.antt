use Rattle.std.proofs.Common.{◌≡◌, drop}
use Rattle.std.specs.Prelude.{fold}
use Rattle.cred_settings.specs.CapSums.{with_value, summed}
use Rattle.cred_settings.proofs.cap_sums.summed.Given as goal

abbrev pub invariant-loop-one : goal.invariant-loop-one
invariant-loop-one l = fold (with_value l.default) l.set (drop l.one-index l.lines) ≡ summed l.default l.lines
