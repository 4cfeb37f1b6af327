use Rattle.std.proofs.Common.{◌≡◌, ◌++◌, drop}
use Rattle.std.specs.Prelude.{flat_map}
use Rattle.filter_settings.specs.Architectures.{word_notes}
use Rattle.filter_settings.proofs.architectures.note_words.Given as goal

abbrev pub invariant-loop-word : goal.invariant-loop-word
invariant-loop-word l =
    l.notes.items ++ flat_map (word_notes l.table l.value) (drop l.word-index l.words)
    ≡ l.fn.notes.items ++ flat_map (word_notes l.table l.value) l.words
