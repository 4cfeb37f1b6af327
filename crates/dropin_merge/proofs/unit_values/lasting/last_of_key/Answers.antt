use Rattle.std.specs.Prelude.{option_and_then, unwrap_or}
use Rattle.dropin_merge.specs.unit_values.Values.{given_by, note_of}
use Rattle.dropin_merge.specs.unit_values.Lasting.{last_read, unread_notes}
use Rattle.dropin_merge.proofs.Found.{found_more}
use Rattle.dropin_merge.proofs.Folding.{adds_more, folds_more, unread_parts, last_steps}
use Rattle.dropin_merge.proofs.unit_values.lasting.last_of_key.Goals as goal

pub loop-place-preserved : goal.loop-place-preserved
loop-place-preserved g c =
    record {
      means =
          folds_more (last_read g.T.KeyValue.reads) (λ a o. unwrap_or (option_and_then (λ value. g.T.KeyValue.reads value.text) o) a)
          (last_steps g.T.KeyValue.reads) (given_by c.args.unit.now.systemd c.args.unit.now.name c.args.key.now) _ _
          (c.in-Some.place, c.in-Some.assignment.now) _ _ _ _ c.in-Some.ensures.steps c.in_ok-value.ensures.given
          c.loop-place.invariant.means c.in_ok-last.ensures.means;
      notes = found_more (note_of c.args.unit.now.systemd c.args.unit.now.name c.args.key.now) _ _
          (c.in-Some.place, c.in-Some.assignment.now) _ _ _ c.in-Some.ensures.steps c.loop-place.invariant.notes
          c.in_ok-value.ensures.noted;
      unread =
          adds_more (unread_notes g.T.KeyValue.reads) (unread_parts g.T.KeyValue.reads) (given_by c.args.unit.now.systemd c.args.unit.now.name c.args.key.now) _ _
          (c.in-Some.place, c.in-Some.assignment.now) _ _ _ _ c.in-Some.ensures.steps c.in_ok-value.ensures.given
          c.loop-place.invariant.unread c.in_ok-last.ensures.noted;
    }
