use Rattle.std.proofs.Common.{◌≡◌, ◌<◌, ◌≤◌, ◌-◌, ℕ, true, length}
use Rattle.std.specs.List.{AllByRecursion}
use Rattle.filter_check.specs.word_sets.Conditions.{meets_all}
use Rattle.filter_check.proofs.filter_paths.region.Region.all.Given as goal

abbrev pub invariant-loop-alloc : goal.invariant-loop-alloc
invariant-loop-alloc l = record {
  few : length l.words.items ≤ 16;
  any : AllByRecursion (λ set. (word : ℕ) → meets_all set.conditions.items word ≡ true) l.words.items;
}

abbrev pub decreases-loop-alloc : goal.decreases-loop-alloc
decreases-loop-alloc l = 16 - length l.words.items
