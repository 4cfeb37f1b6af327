use Rattle.std.specs.List.{filter_map}
use Rattle.dropin_merge.specs.unit_values.Values.{given_by, note_of}
use Rattle.dropin_merge.specs.unit_values.Lasting.{unread_notes}
use Rattle.dropin_merge.specs.unit_values.Lines.{listed_line}
use Rattle.dropin_merge.specs.unit_values.Listed.{listed}
use Rattle.dropin_merge.proofs.Found.{found_more}
use Rattle.dropin_merge.proofs.Folding.{adds_more, unread_parts, some_parts}
use Rattle.dropin_merge.proofs.unit_values.listed.lines_of_key.Goals as goal

pub loop-place-preserved : goal.loop-place-preserved
loop-place-preserved c =
    record {
      means =
          adds_more (filter_map listed) (some_parts listed) (given_by c.args.unit.now.systemd c.args.unit.now.name c.args.key.now) _ _
          (c.in-Some.place, c.in-Some.assignment.now) _ _ _ _ c.in-Some.ensures.steps c.in_ok-value.ensures.given
          c.loop-place.invariant.means c.in_ok-add_listed.ensures.means;
      notes = found_more (note_of c.args.unit.now.systemd c.args.unit.now.name c.args.key.now) _ _
          (c.in-Some.place, c.in-Some.assignment.now) _ _ _ c.in-Some.ensures.steps c.loop-place.invariant.notes
          c.in_ok-value.ensures.noted;
      unread =
          adds_more (unread_notes listed_line) (unread_parts listed_line) (given_by c.args.unit.now.systemd c.args.unit.now.name c.args.key.now) _ _
          (c.in-Some.place, c.in-Some.assignment.now) _ _ _ _ c.in-Some.ensures.steps c.in_ok-value.ensures.given
          c.loop-place.invariant.unread c.in_ok-add_listed.ensures.noted;
    }
