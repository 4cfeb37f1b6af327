-- systemd.exec(5), RestrictNamespaces=: the types of namespaces that are permitted (namespaces(7)).
use Rattle.std.specs.Prelude.{ℕ, ◌||◌, ◌&&◌, not, Bool, true, false, cond, if◌then◌else◌, is_some, Option, Some, None, List, [], ◌∷◌, ◌++◌, codes}
use Rattle.std.specs.Prelude.{flat_map, unwrap_or, filter}
use Rattle.std.specs.List.{filter_map, list_any, list_all}
use Rattle.std.specs.Str.{bytes_eq}
use Rattle.dropin_merge.specs.text_forms.Booleans.{bool_value}
use Rattle.dropin_merge.specs.unit_grammar.Before.{with_before, last_of}
use Rattle.dropin_merge.specs.unit_grammar.declared.notes.NoteCause.{NoteCause}
use Rattle.dropin_merge.specs.unit_grammar.declared.notes.NoteCause.TheVariants.{Value as ValueCause}
use Rattle.dropin_merge.specs.unit_names.declared.version.Version.{Version}
use Rattle.dropin_merge.specs.declared.resolved.Resolved.{Resolved}
use Rattle.dropin_merge.specs.declared.unit_values.lines.Line.{Line}
use Rattle.dropin_merge.specs.declared.unit_values.listed.Listed.{Listed}
use Rattle.dropin_merge.specs.declared.unit_values.value.FileNote.{FileNote}
use Rattle.dropin_merge.specs.declared.unit_values.value.Value.{Value}
use Rattle.dropin_merge.specs.unit_values.Listed.{is_reset, unit_listed, unit_listed_notes}
use Rattle.dropin_merge.specs.unit_values.Notes.{notes_at}
use Rattle.filter_settings.specs.linux_numbers.declared.namespaces.NamespaceType.{NamespaceType}
use Rattle.filter_settings.specs.linux_numbers.declared.namespaces.NamespaceType.TheVariants.{Cgroup, Ipc, Net, Mnt, Pid, User, Uts}
use Rattle.filter_settings.specs.declared.filter_rules.namespace_types.NamespaceTypes.{NamespaceTypes}
use Rattle.filter_settings.specs.filter_rules.NamespaceTypes.{all_types}
use Rattle.filter_settings.specs.linux_numbers.Namespaces.{name_of}
use Rattle.filter_settings.specs.Lines.{in_force}

-- the value as a boolean
abbrev pub switch_of : Listed → Option Bool
switch_of one = bool_value one.value.text

-- the value is a list without `~`
abbrev pub is_plain : Listed → Bool
is_plain one = not (is_some (switch_of one)) && not one.line.is_inverted

-- a plain list after this value adds its types: after a plain list, and in a version of systemd after any other value too
abbrev pub begins : Option Version → Listed → Bool
begins None one = is_plain one
begins (Some version) one = true

-- such a value is among the values since the last empty one
abbrev pub is_begun : Option Version → List Listed → Bool
is_begun systemd before = list_any (begins systemd) (in_force before)

abbrev pub has_word : List ℕ → Line → Bool
has_word name line = list_any (λ word. bytes_eq word name) line.words

-- a plain list permits its types, and if it is the first it forbids all others; an inverted list forbids its types
abbrev pub listed_type : Bool → Bool → Bool → Option Bool
listed_type inverted is_later true = Some (not inverted)
listed_type inverted is_later false = cond (inverted || is_later) None (Some false)

-- `yes` forbids the type, `no` permits it, and a list decides by its name
abbrev pub says_by : Option Bool → Bool → NamespaceType → Line → Option Bool
says_by (Some on) is_later kind line = Some (not on)
says_by None is_later kind line = listed_type line.is_inverted is_later (has_word (name_of kind) line)

-- what a value says of a type; an empty value permits it. `is_later` says that a plain list adds its types
abbrev pub says : Bool → NamespaceType → Listed → Option Bool
says is_later kind one = cond (is_reset one) (Some true) (says_by (switch_of one) is_later kind one.line)

abbrev pub says_of : Option Version → NamespaceType → List Listed × Listed → Option Bool
says_of systemd kind place = says (is_begun systemd place.0) kind place.1

-- the last value that says something of the type decides; without such a value the type is permitted
abbrev pub is_permitted : Option Version → List Listed → NamespaceType → Bool
is_permitted systemd all kind = unwrap_or (last_of (filter_map (says_of systemd kind) (with_before [] all))) true

-- the types that are permitted
abbrev pub types_by : (NamespaceType → Bool) → NamespaceTypes
types_by permitted =
    record {
      cgroup = permitted Cgroup;
      ipc = permitted Ipc;
      net = permitted Net;
      mnt = permitted Mnt;
      pid = permitted Pid;
      user = permitted User;
      uts = permitted Uts;
    }

abbrev pub is_type_name : List ℕ → Bool
is_type_name word = list_any (λ kind. bytes_eq word (name_of kind)) all_types

-- `time` is a type too, but no filter has a rule for it (time_namespaces(7))
abbrev pub is_type_word : List ℕ → Bool
is_type_word word = is_type_name word || bytes_eq word (codes "time")

-- the value is a boolean or a list of types
abbrev pub is_valid : Listed → Bool
is_valid one = is_some (switch_of one) || list_all is_type_word one.line.words

-- a version of systemd ignores a value with an unknown type
abbrev pub counts : Option Version → Listed → Bool
counts None one = true
counts (Some version) one = is_valid one

abbrev pub namespaces_of : Option Version → List Listed → NamespaceTypes
namespaces_of systemd all = types_by (is_permitted systemd (filter (counts systemd) all))

abbrev pub type_causes : List ℕ → List NoteCause
type_causes word = if is_type_name word then [] else ValueCause ∷ []

abbrev pub word_notes : Value → List ℕ → List FileNote
word_notes value word = notes_at value (type_causes word)

-- a word of a list that is not a type is noted; an empty value has no words
abbrev pub list_notes : Listed → List FileNote
list_notes one = cond (is_some (switch_of one)) [] (flat_map (word_notes one.value) one.line.words)

-- by the rules of a version of systemd the whole value is noted
abbrev pub line_notes : Option Version → Listed → List FileNote
line_notes None one = list_notes one
line_notes (Some version) one = cond (is_valid one) [] (notes_at one.value (ValueCause ∷ []))

abbrev pub namespaces_notes : Option Version → List Listed → List FileNote
namespaces_notes systemd all = flat_map (line_notes systemd) all

-- the types that the files of a unit permit by such a key
unfoldable pub unit_namespaces : Resolved → List ℕ → NamespaceTypes
unit_namespaces unit key = namespaces_of unit.systemd (unit_listed unit key)

-- the notes name values that cannot be read, then words
unfoldable pub unit_namespaces_notes : Resolved → List ℕ → List FileNote
unit_namespaces_notes unit key = unit_listed_notes unit key ++ namespaces_notes unit.systemd (unit_listed unit key)
