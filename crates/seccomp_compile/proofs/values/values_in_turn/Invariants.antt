use Rattle.std.proofs.Common.{◌≡◌, length}
use Rattle.seccomp_compile.specs.Decisions.{decision_of, ends}
use Rattle.seccomp_compile.specs.Rules.{values_onto}
use Rattle.seccomp_compile.proofs.values.values_in_turn.Given as goal

abbrev pub invariant-loop-case : goal.invariant-loop-case
invariant-loop-case l = values_onto l.left (decision_of l.tree) ≡ values_onto l.cases (ends l.fn.rest)

abbrev pub decreases-loop-case : goal.decreases-loop-case
decreases-loop-case l = length l.left
