use Rattle.std.proofs.Common.{◌≡◌, ◌++◌, take}
use Rattle.std.specs.Prelude.{flat_map}
use Rattle.cred_settings.specs.CapLists.{names_notes}
use Rattle.cred_settings.proofs.cap_lists.note_names.Given as goal

abbrev pub invariant-loop-one : goal.invariant-loop-one
invariant-loop-one l = l.notes.items ≡ l.fn.notes.items ++ flat_map names_notes (take l.one-index l.lines)
