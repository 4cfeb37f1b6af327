use Rattle.std.proofs.Common.{length, ◌≤◌}
use Rattle.filter_check.specs.Differing.{IsLeastFrom}
use Rattle.filter_check.proofs.Kept.{kept_from}
use Rattle.filter_check.proofs.walking.least_difference.Given as goal

abbrev pub invariant-loop-at : goal.invariant-loop-at
invariant-loop-at l = record {
  inside : l.at ≤ length l.ends;
  least : IsLeastFrom (kept_from l.at l.marks.items l.ends) l.ours l.least;
}

abbrev pub decreases-loop-at : goal.decreases-loop-at
decreases-loop-at l = l.at
