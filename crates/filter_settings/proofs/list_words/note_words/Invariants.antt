use Rattle.std.proofs.Common.{◌≡◌, ◌++◌, drop}
use Rattle.std.specs.Prelude.{flat_map}
use Rattle.dropin_merge.specs.unit_values.Notes.{notes_at}
use Rattle.filter_settings.proofs.list_words.note_words.Given as goal

abbrev pub invariant-loop-word : goal.invariant-loop-word
invariant-loop-word g l =
    l.notes.items ++ flat_map (λ word. notes_at l.one.value (g.M.ListMention.causes_of l.systemd l.table l.mode l.adds word))
    (drop l.word-index l.words)
    ≡ l.fn.notes.items ++ flat_map (λ word. notes_at l.one.value (g.M.ListMention.causes_of l.systemd l.table l.mode l.adds word)) l.words
