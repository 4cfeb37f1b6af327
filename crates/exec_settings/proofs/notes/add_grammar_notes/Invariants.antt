use Rattle.std.proofs.Common.{◌≡◌, ◌++◌, drop}
use Rattle.std.specs.Prelude.{flat_map}
use Rattle.std.specs.List.{enumerate_from}
use Rattle.exec_settings.specs.Notes.{grammar_notes_in}
use Rattle.exec_settings.proofs.notes.add_grammar_notes.Given as goal

abbrev pub invariant-loop-number : goal.invariant-loop-number
invariant-loop-number l =
    l.notes.items ++ flat_map (λ place. grammar_notes_in place.0 place.1) (enumerate_from l.number (drop l.number l.files))
    ≡ l.fn.notes.items ++ flat_map (λ place. grammar_notes_in place.0 place.1) (enumerate_from 0 l.files)
