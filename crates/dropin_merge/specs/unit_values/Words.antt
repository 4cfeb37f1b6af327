-- A key may have a list of words (systemd.exec(5), systemd.syntax(7)).
use Rattle.std.specs.Prelude.{ℕ, ◌==◌, cond, List, [], ◌∷◌, ◌++◌, Option, Some, flat_map, length, unwrap_or}
use Rattle.unit_grammar.specs.text_forms.Words.{words_of}
use Rattle.dropin_merge.specs.declared.resolved.Resolved.{Resolved}
use Rattle.dropin_merge.specs.declared.unit_values.value.FileNote.{FileNote}
use Rattle.dropin_merge.specs.declared.unit_values.value.Value.{Value}
use Rattle.dropin_merge.specs.unit_values.Values.{values_of, notes_of, in_force}
use Rattle.dropin_merge.specs.unit_values.Lasting.{unread_notes}
use Rattle.dropin_merge.specs.unit_values.Lines.{words_if}

-- the words of a value, if it can be split; an empty value has no words
abbrev pub split : List ℕ → Option (List (List ℕ))
split [] = Some []
split (byte ∷ text) = words_if (words_of (byte ∷ text))

-- values add their words, and an empty value resets the words before it
abbrev pub words_in : List Value → List (List ℕ)
words_in values = flat_map (λ value. unwrap_or (split value.text) []) (in_force values)

-- the words after one more value
abbrev pub words_behind : List (List ℕ) → Value → List (List ℕ)
words_behind words value = cond (length value.text == 0) [] (words ++ unwrap_or (split value.text) [])

-- the words that the files of a unit give to such a key
unfoldable pub unit_words : Resolved → List ℕ → List (List ℕ)
unit_words unit key = words_in (values_of unit key)

-- the notes on values that cannot be expanded, and then on values that cannot be split
unfoldable pub unit_words_notes : Resolved → List ℕ → List FileNote
unit_words_notes unit key = notes_of unit key ++ unread_notes split (values_of unit key)
