use Rattle.std.proofs.Common.{◌≡◌, ◌++◌, Some}
use Rattle.std.specs.List.{filter_map}
use Rattle.dropin_merge.specs.KeyWalk.{key_left}
use Rattle.dropin_merge.specs.unit_values.Values.{given_by, note_of, values_of, notes_of}
use Rattle.dropin_merge.specs.unit_values.Lasting.{last_read, last_text}
use Rattle.dropin_merge.proofs.unit_values.lasting.last_text_of_key.Given as goal

abbrev pub invariant-loop-place : goal.invariant-loop-place
invariant-loop-place l = record {
  means : last_text (values_of l.unit l.key) ≡ last_read Some l.last
      (filter_map (given_by l.unit.systemd l.unit.name l.key) (key_left l.place-iterator));
  notes : notes_of l.unit l.key ≡ l.notes.items ++ filter_map (note_of l.unit.systemd l.unit.name l.key) (key_left l.place-iterator);
}
