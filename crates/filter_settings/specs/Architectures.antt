-- systemd.exec(5), SystemCallArchitectures=: the ABIs that are permitted.
use Rattle.std.specs.Prelude.{ℕ, ◌&&◌, ◌||◌, not, Bool, false, is_some, if◌then◌else◌, Option, List, [], ◌∷◌, ◌++◌, flat_map, unwrap_or}
use Rattle.std.specs.Prelude.{codes}
use Rattle.std.specs.Option.{option_map_or}
use Rattle.std.specs.List.{list_any}
use Rattle.std.specs.Str.{bytes_eq}
use Rattle.dropin_merge.specs.text_forms.Words.{words_of}
use Rattle.dropin_merge.specs.unit_grammar.declared.notes.NoteCause.{NoteCause}
use Rattle.dropin_merge.specs.unit_grammar.declared.notes.NoteCause.TheVariants.{UnknownName}
use Rattle.dropin_merge.specs.declared.resolved.Resolved.{Resolved}
use Rattle.dropin_merge.specs.declared.unit_values.value.FileNote.{FileNote}
use Rattle.dropin_merge.specs.declared.unit_values.value.Value.{Value}
use Rattle.dropin_merge.specs.unit_values.Lines.{words_if}
use Rattle.dropin_merge.specs.unit_values.Notes.{notes_at}
use Rattle.dropin_merge.specs.unit_values.Values.{values_of, in_force}
use Rattle.dropin_merge.specs.unit_values.Words.{unit_words, unit_words_notes}
use Rattle.call_table.specs.Table.{Table}

-- the second ABI of the table has this name
abbrev pub is_second : Table → List ℕ → Bool
is_second table word = option_map_or (λ second. bytes_eq word second.name) table.second false

-- the word is `native` or the name of an ABI of the table
abbrev pub is_abi_name : Table → List ℕ → Bool
is_abi_name table word = bytes_eq word (codes "native") || (bytes_eq word table.name || is_second table word)

-- the words of a value, if it can be split
abbrev pub value_words : Value → Option (List (List ℕ))
value_words value = words_if (words_of value.text)

abbrev pub is_read : Value → Bool
is_read value = is_some (value_words value)

-- a list is in force, and none of its words names the second ABI; the native ABI is always permitted
unfoldable pub unit_refuses_second : Resolved → Table → List ℕ → Bool
unit_refuses_second unit table key =
    is_some table.second && (list_any is_read (in_force (values_of unit key)) && not (list_any (is_second table) (unit_words unit key)))

abbrev pub word_causes : Table → List ℕ → List NoteCause
word_causes table word = if is_abi_name table word then [] else UnknownName ∷ []

abbrev pub word_notes : Table → Value → List ℕ → List FileNote
word_notes table value word = notes_at value (word_causes table word)

abbrev pub value_notes : Table → Value → List FileNote
value_notes table value = flat_map (word_notes table value) (unwrap_or (value_words value) [])

-- the notes name values that cannot be read, then names that the table lacks
unfoldable pub unit_architectures_notes : Resolved → Table → List ℕ → List FileNote
unit_architectures_notes unit table key = unit_words_notes unit key ++ flat_map (value_notes table) (values_of unit key)
