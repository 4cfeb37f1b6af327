-- Notes on the values of a key.
use Rattle.std.specs.Prelude.{List, [], map, flat_map}
use Rattle.unit_grammar.specs.Before.{with_before}
use Rattle.unit_grammar.specs.declared.notes.NoteCause.{NoteCause}
use Rattle.dropin_merge.specs.declared.unit_values.value.FileNote.{FileNote}
use Rattle.dropin_merge.specs.declared.unit_values.value.Value.{Value}

-- a note has the place of its value
abbrev pub note_at : Value → NoteCause → FileNote
note_at value cause = record { place = value.place; cause = cause }

abbrev pub notes_at : Value → List NoteCause → List FileNote
notes_at value causes = map (note_at value) causes

-- the notes on the values in order; the causes of a value may depend on the values before it
abbrev pub noted : (List Value × Value → List NoteCause) → List Value → List FileNote
noted causes values = flat_map (λ place. notes_at place.1 (causes place)) (with_before [] values)
