use Rattle.std.proofs.Common.{◌<◌, ◌∙◌, ℕ, subst, sym, arith}
use Rattle.exposure_score.proofs.Sums.{totals, few_shown, counted, few_weights_shown, part, is_score}
use Rattle.exposure_score.proofs.scoring.score.Goals as goal

pub sum_of_weights-weights-requires : goal.sum_of_weights-weights-requires
sum_of_weights-weights-requires g c =
    let made = totals _ _ _ _ c.args.policy.now c.list.result.now c.in-Ok.rows.items c.list.ensures.all_in_order c.list.ensures.as_held c.in-Ok.ensures in
    few_shown _ _ _ _ _ _ c.deref.result.now made c.deref.ensures.value

pub returns-then-weights-eq0-clause-no_weight : goal.returns-then-weights-eq0-clause-no_weight
returns-then-weights-eq0-clause-no_weight g c =
    let made = totals _ _ _ _ c.args.policy.now c.list.result.now c.in-Ok.rows.items c.list.ensures.all_in_order c.list.ensures.as_held c.in-Ok.ensures in
    λ same. counted _ _ _ _ _ _ c.deref.result.now made c.deref.ensures.value c.sum_of_weights-weights.result
    c.sum_of_weights-weights.ensures.the_sum ∙ c.if-weights-eq0.true

pub sum_of_terms-requires : goal.sum_of_terms-requires
sum_of_terms-requires g c =
    let made = totals _ _ _ _ c.args.policy.now c.list.result.now c.in-Ok.rows.items c.list.ensures.all_in_order c.list.ensures.as_held c.in-Ok.ensures in
    few_shown _ _ _ _ _ _ c.deref-2.result.now made c.deref-2.ensures.value

pub exposure-exposure-requires-clause-part : goal.exposure-exposure-requires-clause-part
exposure-exposure-requires-clause-part g c =
    let made = totals _ _ _ _ c.args.policy.now c.list.result.now c.in-Ok.rows.items c.list.ensures.all_in_order c.list.ensures.as_held c.in-Ok.ensures in
    part _ _ _ _ _ _ c.deref.result.now made c.deref.ensures.value c.sum_of_terms.result c.sum_of_weights-weights.result
    c.deref-2.result.now c.deref-2.ensures.value c.sum_of_weights-weights.ensures.the_sum c.sum_of_terms.ensures.the_sum

pub exposure-exposure-requires-clause-fits : goal.exposure-exposure-requires-clause-fits
exposure-exposure-requires-clause-fits g c =
    let made = totals _ _ _ _ c.args.policy.now c.list.result.now c.in-Ok.rows.items c.list.ensures.all_in_order c.list.ensures.as_held c.in-Ok.ensures in
    few_weights_shown _ _ _ _ _ _ c.deref.result.now made c.deref.ensures.value c.sum_of_weights-weights.result
    c.sum_of_weights-weights.ensures.the_sum

pub returns-clause-weighs_each_test : goal.returns-clause-weighs_each_test
returns-clause-weighs_each_test g c =
    let made = totals _ _ _ _ c.args.policy.now c.list.result.now c.in-Ok.rows.items c.list.ensures.all_in_order c.list.ensures.as_held c.in-Ok.ensures in
    is_score _ _ _ _ _ _ c.deref.result.now made c.deref.ensures.value c.sum_of_terms.result c.sum_of_weights-weights.result
    c.deref-2.result.now c.deref-2.ensures.value c.sum_of_weights-weights.ensures.the_sum c.sum_of_terms.ensures.the_sum
    c.new.result c.exposure-exposure.result c.new.ensures.holds_them c.exposure-exposure.ensures.in_hundredths

pub returns-clause-some_weight : goal.returns-clause-some_weight
returns-clause-some_weight g c =
    let made = totals _ _ _ _ c.args.policy.now c.list.result.now c.in-Ok.rows.items c.list.ensures.all_in_order c.list.ensures.as_held c.in-Ok.ensures in
    let is = counted _ _ _ _ _ _ c.deref.result.now made c.deref.ensures.value c.sum_of_weights-weights.result c.sum_of_weights-weights.ensures.the_sum in
    let some : 0 < c.sum_of_weights-weights.result = omega arith in
    subst (λ (n : ℕ). 0 < n) (sym is) some
