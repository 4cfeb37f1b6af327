use Rattle.std.proofs.Common.{◌≡◌, ◌++◌, drop}
use Rattle.std.specs.Prelude.{flat_map}
use Rattle.filter_settings.specs.Namespaces.{word_notes}
use Rattle.filter_settings.proofs.namespaces.note_words.Given as goal

abbrev pub invariant-loop-word : goal.invariant-loop-word
invariant-loop-word l =
    l.notes.items ++ flat_map (word_notes l.value) (drop l.word-index l.words)
    ≡ l.fn.notes.items ++ flat_map (word_notes l.value) l.words
