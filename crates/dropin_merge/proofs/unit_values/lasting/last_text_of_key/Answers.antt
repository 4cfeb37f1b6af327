use Rattle.std.proofs.Common.{Some}
use Rattle.std.specs.Prelude.{unwrap_or}
use Rattle.std.specs.Option.{option_map}
use Rattle.dropin_merge.specs.unit_values.Values.{given_by, note_of}
use Rattle.dropin_merge.specs.unit_values.Lasting.{last_read}
use Rattle.dropin_merge.proofs.Found.{found_more}
use Rattle.dropin_merge.proofs.Folding.{folds_more, text_steps}
use Rattle.dropin_merge.proofs.unit_values.lasting.last_text_of_key.Goals as goal

pub loop-place-preserved : goal.loop-place-preserved
loop-place-preserved c =
    record {
      means =
          folds_more (last_read Some) (λ a o. unwrap_or (option_map (λ value. value.text) o) a) text_steps
          (given_by c.args.unit.now.systemd c.args.unit.now.name c.args.key.now) _ _
          (c.in-Some.place, c.in-Some.assignment.now) _ _ _ _ c.in-Some.ensures.steps c.in_ok-value.ensures.given
          c.loop-place.invariant.means c.next_text-last.ensures;
      notes = found_more (note_of c.args.unit.now.systemd c.args.unit.now.name c.args.key.now) _ _
          (c.in-Some.place, c.in-Some.assignment.now) _ _ _ c.in-Some.ensures.steps c.loop-place.invariant.notes
          c.in_ok-value.ensures.noted;
    }
