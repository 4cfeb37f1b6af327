use Rattle.std.proofs.Common.{ap, sym, ◌∙◌, nat_cmp, Less, take, length}
use Rattle.std.specs.Cmp.Lexicographic.{slice_cmp}
use Rattle.std.specs.Ordering.{ordering_then}
use Rattle.site_table.proofs.Comparing.{shorter_order, longer_order}
use Rattle.site_table.proofs.find.order_of.Goals as goal

pub returns-then-text-front : goal.returns-then-text-front
returns-then-text-front c =
    c.then.ensures ∙ ap (λ o. ordering_then o Less) (c.cmp.ensures ∙ ap (slice_cmp nat_cmp c.args.text.now) c.split_at.ensures.front)
    ∙ sym (shorter_order c.args.text.now c.args.front.now c.args.rest.now c.if-text-front.true)

pub returns : goal.returns
returns c =
    let text = c.args.text.now in
    let front = c.args.front.now in
    c.then-2.ensures ∙ ap (λ o. ordering_then o c.cmp-3.result)
    (c.cmp-2.ensures ∙ ap (λ xs. slice_cmp nat_cmp xs front) c.split_at-2.ensures.front)
    ∙ ap (ordering_then (slice_cmp nat_cmp (take (length front) text) front))
    (c.cmp-3.ensures ∙ ap (λ xs. slice_cmp nat_cmp xs c.args.rest.now) c.split_at-2.ensures.back)
    ∙ sym (longer_order text front c.args.rest.now c.if-text-front.false)
