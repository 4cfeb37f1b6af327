use Rattle.std.proofs.Common.{sym, ap, ◌∙◌}
use Rattle.seccomp_compile.specs.declared.tree.Comparison.TheVariants.{Equal}
use Rattle.seccomp_compile.specs.Decisions.{decision_of, ends, splits}
use Rattle.seccomp_compile.specs.Rules.{values_onto}
use Rattle.seccomp_compile.proofs.CaseTrees.{values_last}
use Rattle.seccomp_compile.proofs.values.values_in_turn.Goals as goal

pub loop-case-preserved : goal.loop-case-preserved
loop-case-preserved c =
    ap (values_onto c.in-Some.others.now) (c.in_ok-tree.ensures.splits
    ∙ ap (λ value. splits Equal value (decision_of c.loop-case.tree) (ends c.in-Some.case.now.action)) c.value_of.ensures)
    ∙ sym (values_last c.in-Some.others.now c.in-Some.case.now (decision_of c.loop-case.tree))
    ∙ ap (λ cases. values_onto cases (decision_of c.loop-case.tree)) (sym c.in-Some.ensures.cases.0)
    ∙ c.loop-case.invariant
