-- Small facts on sets of capabilities.
use Rattle.std.proofs.Common.{◌≡◌, ℕ, refl, arith}
use Rattle.std.specs.Prelude.{◌==◌}
use Rattle.cap_sets.specs.Sets.{none, single, union}
use Rattle.cap_sets.proofs.Members.{has_union, has_none, same_sets}

pub empty_is_zero : (set : ℕ) → (set == 0) ≡ (set == none)
unfolding none
empty_is_zero set = refl

pub single_alone : (cap' : ℕ) → union none (single cap') ≡ single cap'
single_alone cap' = same_sets (union none (single cap')) (single cap') (λ number. grind (arith, has_union, has_none))
