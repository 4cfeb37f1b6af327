use Rattle.std.proofs.Common.{◌<◌, length, get_or, ap, ◌∙◌, subst, arith}
use Rattle.filter_check.proofs.Lists.{copied_more, copied_all, same_length}
use Rattle.filter_check.proofs.filter_paths.region.Region.copy.Goals as goal

pub loop-set-preserved : goal.loop-set-preserved
loop-set-preserved c =
    copied_more (λ set. set.conditions.items) c.loop-set.words.items c.push.new.self.items c.args.self.now.words.items c.loop-set.set-index
    c.in_ok-copy.field-0 c.set-item.result
    c.loop-set.invariant
    (subst (λ l. c.loop-set.set-index < length l) c.deref-set-items.ensures.value c.loop-set-test.true)
    (c.set-item.is ∙ ap (λ l. get_or l c.loop-set.set-index c.set-item.result) c.deref-set-items.ensures.value)
    c.in_ok-copy.ensures.same
    c.in_ok-push.ensures.items

pub invariant_of-result : goal.invariant_of-result
invariant_of-result c =
    let same = copied_all (λ set. set.conditions.items) c.loop-set.words.items c.args.self.now.words.items c.loop-set.set-index (omega (arith, ap length c.deref-set-items.ensures.value, c.loop-set-test.false)) c.loop-set.invariant in
    let l = same_length (λ set. set.conditions.items) c.loop-set.words.items c.args.self.now.words.items same in
    record {
      whole = l ∙ c.args.self.now.whole;
    }
