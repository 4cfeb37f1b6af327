use Rattle.std.proofs.Common.{◌≡◌, ◌++◌}
use Rattle.std.specs.List.{filter_map}
use Rattle.dropin_merge.specs.KeyWalk.{key_left}
use Rattle.dropin_merge.specs.unit_values.Values.{given_by, note_of, values_of, notes_of}
use Rattle.dropin_merge.specs.unit_values.Lasting.{last_read, unread_notes}
use Rattle.dropin_merge.proofs.unit_values.lasting.last_of_key.Given as goal

abbrev pub invariant-loop-place : goal.invariant-loop-place
invariant-loop-place g l = record {
  means : last_read g.T.KeyValue.reads l.fn.default (values_of l.unit l.key)
      ≡ last_read g.T.KeyValue.reads l.last (filter_map (given_by l.unit.systemd l.unit.name l.key) (key_left l.place-iterator));
  notes : notes_of l.unit l.key ≡ l.notes.items ++ filter_map (note_of l.unit.systemd l.unit.name l.key) (key_left l.place-iterator);
  unread : unread_notes g.T.KeyValue.reads (values_of l.unit l.key)
      ≡ l.unread.items ++ unread_notes g.T.KeyValue.reads (filter_map (given_by l.unit.systemd l.unit.name l.key) (key_left l.place-iterator));
}
