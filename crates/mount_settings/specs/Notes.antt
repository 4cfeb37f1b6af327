-- The notes on the keys that name paths.
use Rattle.std.specs.Prelude.{ℕ, List, [], ◌∷◌, ◌++◌, Option, Some, None, flat_map}
use Rattle.std.specs.List.{cons_option}
use Rattle.std.specs.Option.{option_map_or}
use Rattle.path_settings.specs.declared.keys.PathKey.{PathKey}
use Rattle.path_settings.specs.declared.dialect.Dialect.{Dialect}
use Rattle.path_settings.specs.FolderWords.{mentions_of_word}
use Rattle.dropin_merge.specs.unit_grammar.declared.unit.Assignment.{Assignment}
use Rattle.dropin_merge.specs.unit_grammar.declared.notes.NoteCause.TheVariants.{Value as ValueCause}
use Rattle.dropin_merge.specs.unit_names.Names.{Name}
use Rattle.dropin_merge.specs.unit_names.declared.version.Version.{Version}
use Rattle.dropin_merge.specs.declared.resolved.Resolved.{Resolved}
use Rattle.dropin_merge.specs.declared.unit_values.value.FileNote.{FileNote}
use Rattle.dropin_merge.specs.declared.unit_values.value.Place.{Place}
use Rattle.dropin_merge.specs.declared.unit_values.value.Value.{Value}
use Rattle.dropin_merge.specs.unit_values.Assignments.{service_assignments}
use Rattle.dropin_merge.specs.unit_values.Values.{expanded_at, unexpanded_at}
use Rattle.dropin_merge.specs.unit_values.Notes.{notes_at}
use Rattle.dropin_merge.specs.unit_values.Lasting.{unless_read}
use Rattle.dropin_merge.specs.unit_values.Words.{split}
use Rattle.mount_settings.specs.Assigned.{key_of, dialect_of}

-- a word that cannot be read is noted, at the place of its value
abbrev pub word_notes : Dialect → PathKey → Value → List ℕ → List FileNote
word_notes dialect key value word = notes_at value (unless_read (mentions_of_word dialect key word))

-- a value that cannot be split is noted; of any other value each word that cannot be read is noted
abbrev pub split_notes : Dialect → PathKey → Value → Option (List (List ℕ)) → List FileNote
split_notes dialect key value None = notes_at value (ValueCause ∷ [])
split_notes dialect key value (Some words) = flat_map (word_notes dialect key value) words

abbrev pub value_notes : Dialect → PathKey → Value → List FileNote
value_notes dialect key value = split_notes dialect key value (split value.text)

-- an assignment to a key is noted if it cannot be expanded, and otherwise its value may get notes
abbrev pub given_notes : Option Version → Name → Place × Assignment → PathKey → List FileNote
given_notes systemd name one key =
    cons_option (unexpanded_at systemd name one) [] ++ option_map_or (value_notes (dialect_of systemd) key) (expanded_at systemd name one) []

abbrev pub notes_by : Option Version → Name → Place × Assignment → List FileNote
notes_by systemd name one = option_map_or (given_notes systemd name one) (key_of systemd one.1) []

-- the notes over all files, in the order of their assignments; values that are reset later are noted too
unfoldable pub written_notes : Resolved → List FileNote
written_notes unit = flat_map (notes_by unit.systemd unit.name) (service_assignments unit)
