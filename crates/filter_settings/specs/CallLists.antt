-- systemd.exec(5), SystemCallFilter=: the list of calls.
use Rattle.std.specs.Prelude.{ℕ, Bool, Option, None, Some, List, [], ◌∷◌, ◌++◌, codes, flat_map, true, false, cond, option_and_then}
use Rattle.std.specs.Option.{option_map}
use Rattle.std.specs.List.{filter_map}
use Rattle.dropin_merge.specs.unit_grammar.Before.{with_before}
use Rattle.dropin_merge.specs.unit_names.Versions.{is_257}
use Rattle.dropin_merge.specs.unit_names.declared.version.Version.{Version}
use Rattle.dropin_merge.specs.declared.resolved.Resolved.{Resolved}
use Rattle.dropin_merge.specs.declared.unit_values.lines.Line.{Line}
use Rattle.dropin_merge.specs.declared.unit_values.listed.Listed.{Listed}
use Rattle.dropin_merge.specs.declared.unit_values.value.FileNote.{FileNote}
use Rattle.dropin_merge.specs.declared.unit_values.value.Value.{Value}
use Rattle.dropin_merge.specs.unit_values.Listed.{unit_listed, unit_listed_notes}
use Rattle.dropin_merge.specs.unit_values.Notes.{notes_at}
use Rattle.call_table.specs.Table.{Table}
use Rattle.filter_settings.specs.declared.filter_rules.mentions.Mode.{Mode}
use Rattle.filter_settings.specs.declared.filter_rules.mentions.Mode.TheVariants.{Allow, Deny}
use Rattle.filter_settings.specs.declared.filter_rules.mentions.Mention.{Mention}
use Rattle.filter_settings.specs.declared.filter_rules.mentions.CallList.{CallList}
use Rattle.filter_settings.specs.filter_rules.Calls.{is_allowing, denies_no_call}
use Rattle.filter_settings.specs.Lines.{in_force}
use Rattle.filter_settings.specs.Modes.{adds_to, list_mode, mode_behind}
use Rattle.filter_settings.specs.CallWords.{word_mention, word_causes}

-- the mentions of the words of a line in a list of this mode
abbrev pub line_mentions : Option Version → Table → Mode → Line → List Mention
line_mentions systemd table mode line = filter_map (word_mention systemd table mode (adds_to mode line)) line.words

-- a list that allows begins with the group `@default`
abbrev pub implied : Mode → List Mention
implied Allow = record { adds = true; name = codes "@default"; action = None } ∷ []
implied Deny = []

abbrev pub list_of : Option Version → Table → Mode → List Listed → CallList
list_of systemd table mode lines =
    record { mode = mode; mentions = implied mode ++ flat_map (λ one. line_mentions systemd table mode one.line) lines; hides_unknown = false }

-- the first line fixes the mode, and the mentions of all lines follow in their order
abbrev pub begun_by : Option Version → Table → List Listed → Option CallList
begun_by systemd table lines = option_map (λ mode. list_of systemd table mode lines) (list_mode lines)

-- by the rules of a version of systemd, a list that denies and has no call on it sets no filter
abbrev pub unless_idle : Table → CallList → Option CallList
unless_idle table list = cond (denies_no_call table list) None (Some list)

-- systemd 257 reports to its manager by write(2) with the filter in force, so it allows this call, whatever the lines say
abbrev pub write_mention : Mode → Mention
write_mention mode = record { adds = is_allowing mode; name = codes "write"; action = None }

-- in systemd 257 a list that allows hides the calls that systemd does not know
abbrev pub later_list : CallList → CallList
later_list list =
    record { mode = list.mode; mentions = list.mentions ++ write_mention list.mode ∷ []; hides_unknown = is_allowing list.mode }

abbrev pub as_loaded : Option Version → CallList → CallList
as_loaded systemd list = cond (is_257 systemd) (later_list list) list

-- the list of the lines in force
abbrev pub call_list : Option Version → Table → List Listed → Option CallList
call_list None table lines = begun_by None table lines
call_list (Some version) table lines = option_map (as_loaded (Some version))
    (option_and_then (unless_idle table) (begun_by (Some version) table lines))

-- the notes on a word, at the place of its value
abbrev pub word_notes : Option Version → Table → Mode → Bool → Value → List ℕ → List FileNote
word_notes systemd table mode adds value word = notes_at value (word_causes systemd table mode adds word)

abbrev pub line_notes : Option Version → Table → Mode → Listed → List FileNote
line_notes systemd table mode one = flat_map (word_notes systemd table mode (adds_to mode one.line) one.value) one.line.words

-- the notes on each line, by the mode of the list to which its words are added; an empty value has no words
abbrev pub call_notes : Option Version → Table → List Listed → List FileNote
call_notes systemd table all = flat_map (λ place. line_notes systemd table (mode_behind place.0 place.1) place.1) (with_before [] all)

-- the list that the files of a unit give to such a key
unfoldable pub unit_call_list : Resolved → Table → List ℕ → Option CallList
unit_call_list unit table key = call_list unit.systemd table (in_force (unit_listed unit key))

-- the notes name values that cannot be read, then words
unfoldable pub unit_call_list_notes : Resolved → Table → List ℕ → List FileNote
unit_call_list_notes unit table key = unit_listed_notes unit key ++ call_notes unit.systemd table (unit_listed unit key)
