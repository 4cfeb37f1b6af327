use Rattle.std.proofs.Common.{◌≡◌, length}
use Rattle.seccomp_compile.specs.Decisions.{decision_of, ends, LooksInside}
use Rattle.seccomp_compile.specs.Rules.{cases_onto}
use Rattle.seccomp_compile.proofs.cases.cases_tree.Given as goal

abbrev pub invariant-loop-case : goal.invariant-loop-case
invariant-loop-case l = record {
  cases : cases_onto l.left (decision_of l.tree) ≡ cases_onto l.cases (ends l.fn.rest);
  looks : LooksInside (decision_of l.tree);
}

abbrev pub decreases-loop-case : goal.decreases-loop-case
decreases-loop-case l = length l.left
