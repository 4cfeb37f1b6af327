-- systemd.exec(5), RestrictAddressFamilies=: the list of address families.
use Rattle.std.specs.Prelude.{ℕ, ◌&&◌, not, Bool, false, cond, if◌then◌else◌, Option, Some, None, List, [], ◌∷◌, ◌++◌, codes, flat_map, unwrap_or}
use Rattle.std.specs.Prelude.{option_and_then}
use Rattle.std.specs.Option.{option_map}
use Rattle.std.specs.List.{filter_map, after_last, list_any}
use Rattle.std.specs.Str.{bytes_eq}
use Rattle.dropin_merge.specs.unit_grammar.declared.notes.NoteCause.{NoteCause}
use Rattle.dropin_merge.specs.unit_grammar.declared.notes.NoteCause.TheVariants.{UnknownName}
use Rattle.dropin_merge.specs.unit_names.Versions.{is_known}
use Rattle.dropin_merge.specs.unit_names.declared.version.Version.{Version}
use Rattle.dropin_merge.specs.declared.resolved.Resolved.{Resolved}
use Rattle.dropin_merge.specs.declared.unit_values.lines.Line.{Line}
use Rattle.dropin_merge.specs.declared.unit_values.listed.Listed.{Listed}
use Rattle.dropin_merge.specs.declared.unit_values.value.FileNote.{FileNote}
use Rattle.dropin_merge.specs.declared.unit_values.value.Value.{Value}
use Rattle.dropin_merge.specs.unit_values.Listed.{unit_listed, unit_listed_notes}
use Rattle.dropin_merge.specs.unit_values.Notes.{notes_at}
use Rattle.call_table.specs.Table.{Table}
use Rattle.call_table.specs.Lookups.{named}
use Rattle.filter_settings.specs.declared.filter_rules.mentions.Mode.{Mode}
use Rattle.filter_settings.specs.declared.filter_rules.mentions.Mode.TheVariants.{Allow}
use Rattle.filter_settings.specs.declared.filter_rules.mentions.FamilyMention.{FamilyMention}
use Rattle.filter_settings.specs.declared.filter_rules.mentions.FamilyList.{FamilyList}
use Rattle.filter_settings.specs.filter_rules.Actions.{is_one_of}
use Rattle.filter_settings.specs.filter_rules.Families.{denies_no_family}
use Rattle.filter_settings.specs.Lines.{in_force}
use Rattle.filter_settings.specs.Modes.{adds_to, list_mode}

-- the first name of a family that has two names (socket(2), address_families(7), netlink(7))
abbrev pub first_name : List ℕ → List ℕ
first_name word =
    if is_one_of word (codes "AF_LOCAL" ∷ codes "AF_FILE" ∷ []) then codes "AF_UNIX"
    else if is_one_of word (codes "AF_ROUTE" ∷ []) then codes "AF_NETLINK"
    else word

-- only a version of systemd knows second names
abbrev pub family_name : Option Version → List ℕ → List ℕ
family_name systemd word = if is_known systemd then first_name word else word

-- the number that the table has for a family
abbrev pub family_number : Option Version → Table → List ℕ → Option ℕ
family_number systemd table word = option_map (λ family. family.number) (named (family_name systemd word) table.families)

-- a known family is mentioned
abbrev pub family_mention : Option Version → Table → Bool → List ℕ → Option FamilyMention
family_mention systemd table adds word = option_map (λ number. record { adds = adds; number = number }) (family_number systemd table word)

abbrev pub family_mentions : Option Version → Table → Mode → Line → List FamilyMention
family_mentions systemd table mode line = filter_map (family_mention systemd table (adds_to mode line)) line.words

-- a line has just the word `none`
abbrev pub is_none_word : List (List ℕ) → Bool
is_none_word [] = false
is_none_word (word ∷ []) = bytes_eq word (codes "none")
is_none_word (word ∷ other ∷ words) = false

abbrev pub is_none_line : Listed → Bool
is_none_line one = not one.line.is_inverted && is_none_word one.line.words

abbrev pub list_of : Option Version → Table → Mode → List Listed → FamilyList
list_of systemd table mode lines =
    record { mode = mode; mentions = flat_map (λ one. family_mentions systemd table mode one.line) lines }

-- the first line fixes the mode, and the mentions of all lines follow in their order
abbrev pub begun_by : Option Version → Table → List Listed → Option FamilyList
begun_by systemd table lines = option_map (λ mode. list_of systemd table mode lines) (list_mode lines)

-- if there is a line `none`, only the lines after the last one are read
abbrev pub read_behind_none : (List Listed → FamilyList) → Option Version → Table → List Listed → Option FamilyList
read_behind_none read systemd table lines = cond (list_any is_none_line lines) (Some (read (after_last is_none_line lines)))
    (begun_by systemd table lines)

-- the lines after the last `none`, if there is one, continue a list that allows nothing
abbrev pub going_on : Table → List Listed → Option FamilyList
going_on table lines = read_behind_none (list_of None table Allow) None table lines

abbrev pub nothing_allowed : FamilyList
nothing_allowed = record { mode = Allow; mentions = [] }

-- in a version of systemd the first line after the last `none` begins a list of its own; without such a line nothing is allowed
abbrev pub begun_anew : Option Version → Table → List Listed → Option FamilyList
begun_anew systemd table lines = read_behind_none (λ behind. unwrap_or (begun_by systemd table behind) nothing_allowed) systemd table lines

-- a list that denies and has no family on it sets no filter
abbrev pub unless_idle : Table → FamilyList → Option FamilyList
unless_idle table list = cond (denies_no_family table list) None (Some list)

-- the list of the lines in force
abbrev pub family_list : Option Version → Table → List Listed → Option FamilyList
family_list None table lines = going_on table lines
family_list (Some version) table lines = option_and_then (unless_idle table) (begun_anew (Some version) table lines)

-- an unknown family is noted
abbrev pub family_causes : Option ℕ → List NoteCause
family_causes None = UnknownName ∷ []
family_causes (Some number) = []

abbrev pub word_notes : Option Version → Table → Value → List ℕ → List FileNote
word_notes systemd table value word = notes_at value (family_causes (family_number systemd table word))

-- the word `none` is not a family; an empty value has no words
abbrev pub line_notes : Option Version → Table → Listed → List FileNote
line_notes systemd table one = cond (is_none_line one) [] (flat_map (word_notes systemd table one.value) one.line.words)

abbrev pub family_notes : Option Version → Table → List Listed → List FileNote
family_notes systemd table all = flat_map (line_notes systemd table) all

-- the list that the files of a unit give to such a key
unfoldable pub unit_family_list : Resolved → Table → List ℕ → Option FamilyList
unit_family_list unit table key = family_list unit.systemd table (in_force (unit_listed unit key))

-- the notes name values that cannot be read, then words
unfoldable pub unit_family_list_notes : Resolved → Table → List ℕ → List FileNote
unit_family_list_notes unit table key = unit_listed_notes unit key ++ family_notes unit.systemd table (unit_listed unit key)
