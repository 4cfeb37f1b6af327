use Rattle.std.proofs.Common.{◌∙◌, ap, sym, arith}
use Rattle.std.proofs.lemmas.Bool.{false≢true}
use borrow.Author.Count.{below_more}
use Rattle.cap_sets.specs.Names.{in_lower_case}
use Rattle.cap_sets.proofs.Naming.{found_at, found_nowhere}
use Rattle.cap_sets.proofs.set.CapSet.from_name.Goals as goal

pub returns-then-eq_ignore_ascii_case-clause-named : goal.returns-then-eq_ignore_ascii_case-clause-named
returns-then-eq_ignore_ascii_case-clause-named c =
    found_at c.loop-cap.cap c.args.name.now (omega arith) (ap in_lower_case (sym c.name.ensures.its_name)
    ∙ c.eq_ignore_ascii_case.ensures.test.0 c.if-eq_ignore_ascii_case.true)

pub loop-cap-preserved : goal.loop-cap-preserved
loop-cap-preserved c =
    below_more _ _ c.loop-cap.invariant
    (λ named. false≢true (sym c.if-eq_ignore_ascii_case.false
    ∙ c.eq_ignore_ascii_case.ensures.test.1 (ap in_lower_case c.name.ensures.its_name ∙ named)))

pub returns-clause-named : goal.returns-clause-named
returns-clause-named c = found_nowhere c.args.name.now (λ k h. c.loop-cap.invariant k (omega arith))
