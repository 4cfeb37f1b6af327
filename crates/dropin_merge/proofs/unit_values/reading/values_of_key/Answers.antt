use Rattle.std.proofs.Common.{[], ◌++◌, ap, ◌∙◌}
use Rattle.std.specs.List.{cons_option}
use Rattle.dropin_merge.specs.unit_values.Values.{given_by, note_of}
use Rattle.dropin_merge.proofs.Found.{found_more}
use Rattle.dropin_merge.proofs.unit_values.reading.values_of_key.Goals as goal

pub loop-place-preserved : goal.loop-place-preserved
loop-place-preserved c = record {
  values =
      found_more (given_by c.args.unit.now.systemd c.args.unit.now.name c.args.key.now) _ _
      (c.in-Some.place, c.in-Some.assignment.now) _ _ _ c.in-Some.ensures.steps c.loop-place.invariant.values
      (c.in_ok-add_given.ensures ∙ ap (λ o. c.loop-place.values.items ++ cons_option o []) c.in_ok-value.ensures.given);
  notes = found_more (note_of c.args.unit.now.systemd c.args.unit.now.name c.args.key.now) _ _
      (c.in-Some.place, c.in-Some.assignment.now) _ _ _ c.in-Some.ensures.steps c.loop-place.invariant.notes c.in_ok-value.ensures.noted;
}
