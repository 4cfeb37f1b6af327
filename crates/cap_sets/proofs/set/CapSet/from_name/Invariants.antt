use Rattle.std.proofs.Common.{◌≡◌, ℕ, ◌<◌}
use Rattle.cap_sets.specs.Names.{name_of, in_lower_case}
use Rattle.cap_sets.proofs.set.CapSet.from_name.Given as goal

abbrev pub invariant-loop-cap : goal.invariant-loop-cap
invariant-loop-cap l = (k : ℕ) → k < l.cap → in_lower_case (name_of k) ≡ in_lower_case l.name → ⊥
