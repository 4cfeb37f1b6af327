-- Names of capabilities in lists (capabilities(7), systemd.exec(5)), in any case.
use Rattle.std.specs.Prelude.{ℕ, is_some, cond, List, [], ◌∷◌, Option, position, fold}
use Rattle.std.specs.List.{filter_map}
use Rattle.std.specs.Str.{bytes_eq}
use Rattle.dropin_merge.specs.unit_grammar.declared.notes.NoteCause.TheVariants.{UnknownName}
use Rattle.dropin_merge.specs.declared.unit_values.value.FileNote.{FileNote}
use Rattle.dropin_merge.specs.declared.unit_values.value.Value.{Value}
use Rattle.dropin_merge.specs.unit_values.Notes.{note_at}
use Rattle.site_table.specs.cap_sets.Names.{names, in_lower_case}
use Rattle.site_table.specs.cap_sets.Sets.{none, union, single}

-- the number of the capability of this name, in any case
unfoldable pub cap_named : List ℕ → Option ℕ
cap_named word = position (λ name. bytes_eq (in_lower_case name) (in_lower_case word)) names

-- the set of the capabilities that the words name
abbrev pub named_caps : List (List ℕ) → ℕ
named_caps words = fold (λ set number. union set (single number)) none (filter_map cap_named words)

-- a word of a value that does not name a capability is noted
abbrev pub word_notes : Value → List ℕ → List FileNote
word_notes value word = cond (is_some (cap_named word)) [] (note_at value UnknownName ∷ [])
