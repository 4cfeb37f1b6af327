use Rattle.std.proofs.Common.{◌≡◌, ◌++◌, take}
use Rattle.dropin_merge.specs.unit_values.Notes.{notes_at}
use Rattle.dropin_merge.proofs.unit_values.noting.note_causes.Given as goal

abbrev pub invariant-loop-cause : goal.invariant-loop-cause
invariant-loop-cause l = l.notes.items ≡ l.fn.notes.items ++ notes_at l.value (take l.cause-index l.causes)
