use Rattle.std.proofs.Common.{◌≡◌, ◌++◌, take}
use Rattle.std.specs.Prelude.{flat_map}
use Rattle.cred_settings.specs.CapNames.{word_notes}
use Rattle.cred_settings.proofs.cap_names.note_words.Given as goal

abbrev pub invariant-loop-word : goal.invariant-loop-word
invariant-loop-word l = l.notes.items ≡ l.fn.notes.items ++ flat_map (word_notes l.value) (take l.word-index l.words)
