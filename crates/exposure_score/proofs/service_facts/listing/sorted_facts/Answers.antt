use Rattle.std.proofs.Common.{sym, ap, ◌∙◌, subst, arith}
use Rattle.exposure_score.specs.service_facts.Facts.{told, AreTests}
use Rattle.exposure_score.proofs.Gathered.{in_order, written_back}
use Rattle.exposure_score.proofs.service_facts.listing.sorted_facts.Goals as goal

pub returns : goal.returns
returns c =
    let kept = written_back _ c.deref_mut.result.now c.put_in_order.new.facts _ c.deref_mut.ensures.len (omega arith) in
    subst (AreTests c.args.sandbox.now c.args.calls.now) (sym (c.new.ensures.holds_them ∙ kept))
    (in_order c.args.sandbox.now c.args.calls.now c.deref_mut.result.now c.put_in_order.new.facts
    (ap told c.deref_mut.ensures.value ∙ c.in_ok-facts.ensures)
    c.put_in_order.ensures.the_same c.put_in_order.ensures.by_identifiers)
