use Rattle.std.proofs.Common.{◌≡◌, map, take}
use Rattle.filter_check.proofs.filter_paths.region.Region.copy.Given as goal

abbrev pub invariant-loop-set : goal.invariant-loop-set
invariant-loop-set l = map (λ set. set.conditions.items) l.words.items ≡ take l.set-index (map (λ set. set.conditions.items) l.self.words.items)
