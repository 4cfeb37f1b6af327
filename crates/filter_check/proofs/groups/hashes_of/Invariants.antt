use Rattle.std.proofs.Common.{◌≡◌, length}
use Rattle.filter_check.proofs.groups.hashes_of.Given as goal

abbrev pub invariant-loop-end : goal.invariant-loop-end
invariant-loop-end l = length l.hashes.items ≡ l.end-index
