use Rattle.std.proofs.Common.{◌≡◌, length}
use Rattle.script_text.specs.Numbers.{without_last_zeros}
use Rattle.script_text.proofs.printing.without_last_zeros.Given as goal

abbrev pub invariant-loop-last : goal.invariant-loop-last
invariant-loop-last l = without_last_zeros l.left ≡ without_last_zeros l.args

abbrev pub decreases-loop-last : goal.decreases-loop-last
decreases-loop-last l = length l.left
