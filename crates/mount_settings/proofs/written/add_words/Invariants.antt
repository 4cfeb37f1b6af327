use Rattle.std.proofs.Common.{◌≡◌, ◌++◌, take}
use Rattle.std.specs.Prelude.{flat_map}
use Rattle.mount_settings.specs.Written.{paths_in}
use Rattle.mount_settings.specs.Notes.{word_notes}
use Rattle.mount_settings.proofs.written.add_words.Given as goal

abbrev pub invariant-loop-word : goal.invariant-loop-word
invariant-loop-word l = record {
  added : l.paths.items ≡ l.fn.paths.items ++ paths_in l.dialect l.key (take l.word-index l.words);
  noted : l.notes.items ≡ l.fn.notes.items ++ flat_map (word_notes l.dialect l.key l.value) (take l.word-index l.words);
}
