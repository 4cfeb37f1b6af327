use Rattle.std.proofs.Common.{length}
use Rattle.seccomp_compile.proofs.Rising.{Rises}
use Rattle.seccomp_compile.proofs.CaseTrees.{Valued}
use Rattle.seccomp_compile.proofs.values.values_by_tree.Given as goal

abbrev pub invariant-loop-value : goal.invariant-loop-value
invariant-loop-value l = record {
  valued : Valued l.cases l.rest l.left l.runs.items;
  rises : Rises l.left;
}

abbrev pub decreases-loop-value : goal.decreases-loop-value
decreases-loop-value l = length l.left
