use Rattle.std.proofs.Common.{sym, ap, ◌∙◌}
use Rattle.seccomp_compile.specs.Decisions.{decision_of}
use Rattle.seccomp_compile.specs.Rules.{cases_onto}
use Rattle.seccomp_compile.proofs.CaseTrees.{cases_last}
use Rattle.seccomp_compile.proofs.cases.cases_tree.Goals as goal

pub loop-case-preserved : goal.loop-case-preserved
loop-case-preserved c = record {
  cases =
      ap (cases_onto c.in-Some.others.now) c.in_ok-tree.ensures.tests
      ∙ sym (cases_last c.in-Some.others.now c.in-Some.case.now (decision_of c.loop-case.tree))
      ∙ ap (λ cases. cases_onto cases (decision_of c.loop-case.tree)) (sym c.in-Some.ensures.cases.0)
      ∙ c.loop-case.invariant.cases;
  looks = c.in_ok-tree.ensures.looks c.loop-case.invariant.looks;
}
