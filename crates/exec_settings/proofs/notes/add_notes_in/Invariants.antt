use Rattle.std.proofs.Common.{◌≡◌, ◌++◌, map, take}
use Rattle.exec_settings.specs.Notes.{in_file}
use Rattle.exec_settings.proofs.notes.add_notes_in.Given as goal

abbrev pub invariant-loop-note : goal.invariant-loop-note
invariant-loop-note l = l.notes.items ≡ l.fn.notes.items ++ map (in_file l.number) (take l.note-index l.list)
