use Rattle.std.proofs.Common.{sym, subst, Some}
use Rattle.filter_check.specs.Differing.{IsLesserAt, difference_at}
use Rattle.filter_check.proofs.Least.{lesser_same, lesser_first, lesser_new, lesser_old}
use Rattle.filter_check.proofs.differences.lesser.Goals as goal

pub returns-then-end-theirs : goal.returns-then-end-theirs
returns-then-end-theirs c = lesser_same c.args.end.now c.args.theirs c.args.old c.if-end-theirs.true

pub returns-in-None : goal.returns-in-None
returns-in-None c =
    subst (λ old. IsLesserAt c.args.end.now c.args.theirs old (Some (difference_at c.args.theirs c.args.end.now))) (sym c.in-None.is)
    (lesser_first c.args.end.now c.args.theirs c.if-end-theirs.false)

pub returns-then-comes_before : goal.returns-then-comes_before
returns-then-comes_before c =
    subst (λ old. IsLesserAt c.args.end.now c.args.theirs old (Some (difference_at c.args.theirs c.args.end.now))) (sym c.in-Some.is)
    (lesser_new c.args.end.now c.args.theirs c.in-Some.old c.if-end-theirs.false c.if-comes_before.ensures.before)

pub returns-else-comes_before : goal.returns-else-comes_before
returns-else-comes_before c =
    subst (λ old. IsLesserAt c.args.end.now c.args.theirs old (Some c.in-Some.old)) (sym c.in-Some.is)
    (lesser_old c.args.end.now c.args.theirs c.in-Some.old c.if-comes_before.ensures.behind)
