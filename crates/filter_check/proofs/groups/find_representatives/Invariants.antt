use Rattle.std.proofs.Common.{◌≡◌, length}
use Rattle.filter_check.proofs.groups.find_representatives.Given as goal

abbrev pub invariant-loop-hash : goal.invariant-loop-hash
invariant-loop-hash l = length l.chosen.items ≡ l.hash-index
