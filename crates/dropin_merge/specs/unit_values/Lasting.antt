-- The last readable value of such a key decides (systemd.syntax(7)).
use Rattle.std.specs.Prelude.{ℕ, Option, Some, None, List, [], ◌∷◌, ◌++◌, flat_map, unwrap_or}
use Rattle.std.specs.List.{filter_map}
use Rattle.unit_grammar.specs.Before.{last_of}
use Rattle.unit_grammar.specs.declared.notes.NoteCause.{NoteCause}
use Rattle.unit_grammar.specs.declared.notes.NoteCause.TheVariants.{Value as ValueCause}
use Rattle.dropin_merge.specs.declared.resolved.Resolved.{Resolved}
use Rattle.dropin_merge.specs.declared.unit_values.value.FileNote.{FileNote}
use Rattle.dropin_merge.specs.declared.unit_values.value.Value.{Value}
use Rattle.dropin_merge.specs.unit_values.Values.{values_of, notes_of}
use Rattle.dropin_merge.specs.unit_values.Notes.{notes_at}

-- the last readable value, or the default without one
abbrev pub last_read : {X : Type 0} → (List ℕ → Option X) → X → List Value → X
last_read read default values = unwrap_or (last_of (filter_map (λ value. read value.text) values)) default

-- a value that cannot be read is noted
abbrev pub unless_read : {X : Type 0} → Option X → List NoteCause
unless_read None = ValueCause ∷ []
unless_read (Some x) = []

abbrev pub unread_notes : {X : Type 0} → (List ℕ → Option X) → List Value → List FileNote
unread_notes read values = flat_map (λ value. notes_at value (unless_read (read value.text))) values

-- the value that the files of a unit give to such a key
unfoldable pub unit_last : {X : Type 0} → (List ℕ → Option X) → X → Resolved → List ℕ → X
unit_last read default unit key = last_read read default (values_of unit key)

-- the notes on values that cannot be expanded, and then on values that cannot be read
unfoldable pub unit_last_notes : {X : Type 0} → (List ℕ → Option X) → Resolved → List ℕ → List FileNote
unit_last_notes read unit key = notes_of unit key ++ unread_notes read (values_of unit key)

-- if every text is a value, the last one decides; without a value the text is empty
abbrev pub last_text : List Value → List ℕ
last_text values = last_read Some [] values

unfoldable pub unit_last_text : Resolved → List ℕ → List ℕ
unit_last_text unit key = last_text (values_of unit key)
