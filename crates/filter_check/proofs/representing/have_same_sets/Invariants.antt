use Rattle.std.proofs.Common.{◌≡◌, ◌<◌, ℕ, true, false, [], get_or}
use Rattle.filter_check.specs.filter_paths.Regions.{sets_of}
use Rattle.filter_check.proofs.representing.have_same_sets.Given as goal

abbrev pub invariant-loop-at : goal.invariant-loop-at
invariant-loop-at l = (k : ℕ) → k < l.at → get_or l.loaded k false ≡ true → get_or (sets_of l.one) k [] ≡ get_or (sets_of l.other) k []
