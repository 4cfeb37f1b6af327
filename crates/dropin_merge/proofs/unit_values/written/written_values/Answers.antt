use Rattle.std.proofs.Common.{[], ◌++◌, ap, ◌∙◌}
use Rattle.std.specs.List.{cons_option}
use Rattle.dropin_merge.specs.unit_values.Values.{written_by}
use Rattle.dropin_merge.proofs.Found.{found_more}
use Rattle.dropin_merge.proofs.unit_values.written.written_values.Goals as goal

pub loop-place-preserved : goal.loop-place-preserved
loop-place-preserved c =
    found_more (written_by c.args.key.now) _ _
    (c.in-Some.place, c.in-Some.assignment.now) _ _ _ c.in-Some.ensures.steps c.loop-place.invariant
    (c.in_ok-add_given.ensures ∙ ap (λ o. c.loop-place.values.items ++ cons_option o []) c.in_ok-value.ensures)
