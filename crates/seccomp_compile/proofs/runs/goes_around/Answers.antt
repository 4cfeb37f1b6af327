use Rattle.std.proofs.Common.{sym, ap, ◌∙◌, arith}
use Rattle.seccomp_compile.specs.declared.tree.Comparison.TheVariants.{Equal}
use Rattle.seccomp_compile.specs.Decisions.{decision_of, splits}
use Rattle.seccomp_compile.proofs.runs.goes_around.Goals as goal

pub returns-then-from-number : goal.returns-then-from-number
returns-then-from-number c = λ holds.
    let hit = decision_of c.in-Split.hit.value in (
      c.in-Split.number,
      hit,
      omega (arith, c.if-from-number.true),
      ap decision_of c.in-Split.is
          ∙ ap (λ comparison. splits comparison c.in-Split.number (decision_of c.in-Split.miss.value) hit) c.in-Equal.is
          ∙ ap (λ miss. splits Equal c.in-Split.number miss hit) (ap decision_of (sym c.deref.ensures) ∙ c.ends_with.ensures holds),
    )
