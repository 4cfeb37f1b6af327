use Rattle.std.proofs.Common.{◌≡◌, ◌++◌, take}
use Rattle.std.specs.List.{filter_map}
use Rattle.exec_settings.specs.Launched.{unread_note}
use Rattle.exec_settings.proofs.launched.note_unread.Given as goal

abbrev pub invariant-loop-value : goal.invariant-loop-value
invariant-loop-value l = l.notes.items ≡ l.fn.notes.items ++ filter_map (unread_note l.unit) (take l.value-index l.values)
