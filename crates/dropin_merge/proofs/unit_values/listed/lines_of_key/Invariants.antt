use Rattle.std.proofs.Common.{◌≡◌, ◌++◌}
use Rattle.std.specs.List.{filter_map}
use Rattle.dropin_merge.specs.KeyWalk.{key_left}
use Rattle.dropin_merge.specs.unit_values.Values.{given_by, note_of, values_of, notes_of}
use Rattle.dropin_merge.specs.unit_values.Lasting.{unread_notes}
use Rattle.dropin_merge.specs.unit_values.Lines.{listed_line}
use Rattle.dropin_merge.specs.unit_values.Listed.{listed}
use Rattle.dropin_merge.proofs.unit_values.listed.lines_of_key.Given as goal

abbrev pub invariant-loop-place : goal.invariant-loop-place
invariant-loop-place l = record {
  means : filter_map listed (values_of l.unit l.key) ≡ l.all.items ++ filter_map listed
      (filter_map (given_by l.unit.systemd l.unit.name l.key) (key_left l.place-iterator));
  notes : notes_of l.unit l.key ≡ l.notes.items ++ filter_map (note_of l.unit.systemd l.unit.name l.key) (key_left l.place-iterator);
  unread : unread_notes listed_line (values_of l.unit l.key)
      ≡ l.unread.items ++ unread_notes listed_line (filter_map (given_by l.unit.systemd l.unit.name l.key) (key_left l.place-iterator));
}
