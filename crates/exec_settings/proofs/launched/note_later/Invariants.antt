use Rattle.std.proofs.Common.{◌≡◌, ◌++◌, take}
use Rattle.std.specs.List.{list_any}
use Rattle.cred_settings.specs.dropin_merge.unit_values.Notes.{noted}
use Rattle.exec_settings.specs.Launched.{is_command, later_causes}
use Rattle.exec_settings.proofs.launched.note_later.Given as goal

abbrev pub invariant-loop-value : goal.invariant-loop-value
invariant-loop-value l =
    (l.seen ≡ list_any (is_command l.unit) (take l.value-index l.values))
    × (l.notes.items ≡ l.fn.notes.items ++ noted (later_causes l.unit) (take l.value-index l.values))
