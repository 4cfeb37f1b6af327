use Rattle.std.proofs.Common.{ap, ◌∙◌}
use Rattle.seccomp_compile.specs.declared.tree.Comparison.TheVariants.{Equal}
use Rattle.seccomp_compile.specs.Decisions.{decision_of, splits}
use Rattle.seccomp_compile.proofs.runs.enclosed.Goals as goal

pub returns-clause-decides : goal.returns-clause-decides
returns-clause-decides c =
    ap (λ tree. splits Equal c.args.middle.from (decision_of tree) (decision_of c.in_ok-new-2.field-0.value)) c.in_ok-new.ensures.ok
    ∙ ap (λ tree. splits Equal c.args.middle.from (decision_of c.args.run.tree) (decision_of tree)) c.in_ok-new-2.ensures.ok
