-- Suffixes and default actions are refusals.
use Rattle.std.proofs.Common.{◌≤◌, ℕ, Bool, true, false, cond, Option, Some, None, List, [], ◌∷◌, codes}
use Rattle.std.specs.Prelude.{◌||◌, is_some, option_and_then}
use Rattle.std.specs.Option.{option_map, IfSome}
use Rattle.std.specs.List.{All}
use Rattle.std.specs.Str.{bytes_eq, byte as ascii}
use Rattle.std.proofs.lemmas.List.Elements.{All-append, All-nil, All-cons}
use Rattle.dropin_merge.specs.linux_numbers.Limits.{max_errno}
use Rattle.dropin_merge.specs.text_forms.Errnos.{errno_value}
use Rattle.dropin_merge.proofs.OfTextForms.Bounded.{errno_bounded}
use Rattle.dropin_merge.specs.unit_grammar.Kinds.{cut_at}
use Rattle.dropin_merge.specs.unit_names.Versions.{is_257}
use Rattle.dropin_merge.specs.unit_names.declared.version.Version.{Version}
use Rattle.dropin_merge.specs.declared.resolved.Resolved.{Resolved}
use Rattle.dropin_merge.specs.declared.unit_values.listed.Listed.{Listed}
use Rattle.dropin_merge.specs.unit_values.Lasting.{unit_last}
use Rattle.dropin_merge.specs.unit_values.Listed.{unit_listed}
use Rattle.dropin_merge.specs.unit_values.Values.{values_of}
use Rattle.call_rules.specs.declared.actions.Action.{Action}
use Rattle.call_rules.specs.declared.actions.Action.TheVariants.{KillProcess, Errno}
use Rattle.filter_settings.specs.declared.error_actions.ErrorAction.{ErrorAction}
use Rattle.call_table.specs.Table.{Table}
use Rattle.filter_settings.specs.declared.filter_rules.mentions.Mode.{Mode}
use Rattle.filter_settings.specs.declared.filter_rules.mentions.Mode.TheVariants.{Allow, Deny}
use Rattle.filter_settings.specs.declared.filter_rules.mentions.CallList.{CallList}
use Rattle.filter_settings.specs.filter_rules.Refusing.{IsRefusing, HasRefusal, HasRefusals, AreRefusing}
use Rattle.filter_settings.specs.Lines.{in_force}
use Rattle.filter_settings.specs.Modes.{list_mode, adds_to}
use Rattle.filter_settings.specs.ErrorActions.{error_action, default_action, error_action_value, unit_error_action}
use Rattle.filter_settings.specs.CallWords.{CallWord, suffix_of, suffixed, word_of_sides, word_of, is_known, mention_of, word_mention}
use Rattle.filter_settings.specs.declared.call_words.Suffix.{Suffix}
use Rattle.filter_settings.specs.declared.call_words.Suffix.TheVariants.{IsAction, Dropped, Refused}
use Rattle.filter_settings.specs.filter_rules.Calls.{denies_no_call}
use Rattle.filter_settings.specs.CallLists.{implied, line_mentions, list_of, begun_by, unless_idle, later_list, as_loaded, call_list}
use Rattle.filter_settings.specs.CallLists.{unit_call_list}
use Rattle.filter_settings.specs.Settings.{settings_of}
use Rattle.filter_settings.proofs.Each.{each_some, each_of_all, last_of_all}

action_refuses : (text : List ℕ) → IfSome (error_action text) IsRefusing
unfolding error_action
action_refuses text = by (bytes_eq text (codes "kill")) (errno_value text) (errno_bounded text)
  where
    by : (b : Bool) (o : Option ℕ) → IfSome o (λ number. number ≤ max_errno)
        → IfSome (cond b (Some KillProcess) (option_map Errno o)) IsRefusing
    by true o h = tt
    by false None h = tt
    by false (Some number) h = h

value_refuses : (text : List ℕ) → IfSome (error_action_value text) (λ value. IsRefusing value.action)
value_refuses [] = tt
value_refuses (byte ∷ text) = by (error_action (byte ∷ text)) (action_refuses (byte ∷ text))
  where
    by : (o : Option Action) → IfSome o IsRefusing → IfSome (option_map (λ action. record { action = action }) o)
        (λ (value : ErrorAction). IsRefusing value.action)
    by None h = tt
    by (Some action) h = h

default_refuses : (unit : Resolved) (key : List ℕ) → IsRefusing (unit_error_action unit key)
unfolding unit_last
default_refuses unit key = last_of_all (λ value. IsRefusing value.action) default_action tt _
    (each_some (λ value. IsRefusing value.action) (λ value. error_action_value value.text) (λ value. value_refuses value.text)
    (values_of unit key))

abbrev Refuses : CallWord → Type 0
Refuses word = IfSome word.action IsRefusing

suffix_refuses : (kind : Suffix) (name suffix : List ℕ) → IfSome (suffixed kind name suffix) Refuses
suffix_refuses IsAction name suffix = by (error_action suffix) (action_refuses suffix)
  where
    by : (o : Option Action) → IfSome o IsRefusing
        → IfSome (option_map (λ action. record { name = name; action = Some action; has_stray = false }) o) Refuses
    by None h = tt
    by (Some action) h = h
suffix_refuses Dropped name suffix = tt
suffix_refuses Refused name suffix = tt

word_refuses : (kind : Suffix) (word : List ℕ) → IfSome (word_of kind word) Refuses
word_refuses kind word = by (cut_at (ascii ":") word)
  where
    by : (sides : Option (List ℕ × List ℕ)) → IfSome (word_of_sides kind word sides) Refuses
    by None = tt
    by (Some sides) = suffix_refuses kind sides.0 sides.1

mention_refuses : (systemd : Option Version) (table : Table) (mode : Mode) (adds : Bool) (word : List ℕ)
    → IfSome (word_mention systemd table mode adds word) HasRefusal
mention_refuses systemd table mode adds word = by (word_of (suffix_of systemd mode adds) word) (word_refuses (suffix_of systemd mode adds) word)
  where
    known : (b : Bool) (read : CallWord) → Refuses read → IfSome
        (cond b (Some (record { adds = adds || is_some read.action; name = read.name; action = read.action })) None) HasRefusal
    known true read h = h
    known false read h = tt

    by : (o : Option CallWord) → IfSome o Refuses → IfSome (mention_of table adds o) HasRefusal
    by None h = tt
    by (Some read) h = known (is_known table read.name) read h

abbrev AllRefuse : CallList → Type 0
AllRefuse list = All HasRefusal list.mentions

implied_refuse : (mode : Mode) → All HasRefusal (implied mode)
implied_refuse Allow = All-cons HasRefusal _ [] tt (All-nil HasRefusal)
implied_refuse Deny = All-nil HasRefusal

lines_refuse : (systemd : Option Version) (table : Table) (mode : Mode) (lines : List Listed) → AllRefuse (list_of systemd table mode lines)
lines_refuse systemd table mode lines =
    All-append HasRefusal (implied mode) _ (implied_refuse mode)
    (each_of_all HasRefusal (λ one. line_mentions systemd table mode one.line)
    (λ one. each_some HasRefusal (word_mention systemd table mode (adds_to mode one.line))
    (mention_refuses systemd table mode (adds_to mode one.line)) one.line.words) lines)

begun_refuses : (systemd : Option Version) (table : Table) (lines : List Listed) → IfSome (begun_by systemd table lines) AllRefuse
begun_refuses systemd table lines = by (list_mode lines)
  where
    by : (mode : Option Mode) → IfSome (option_map (λ mode. list_of systemd table mode lines) mode) AllRefuse
    by None = tt
    by (Some mode) = lines_refuse systemd table mode lines

loaded_refuses : (systemd : Option Version) (list : CallList) → AllRefuse list → AllRefuse (as_loaded systemd list)
loaded_refuses systemd list h = by (is_257 systemd)
  where
    by : (b : Bool) → AllRefuse (cond b (later_list list) list)
    by true = All-append HasRefusal list.mentions _ h (All-cons HasRefusal _ [] tt (All-nil HasRefusal))
    by false = h

list_refuses : (systemd : Option Version) (table : Table) (lines : List Listed) → IfSome (call_list systemd table lines) AllRefuse
list_refuses None table lines = begun_refuses None table lines
list_refuses (Some version) table lines = by (begun_by (Some version) table lines) (begun_refuses (Some version) table lines)
  where
    unless : (b : Bool) (list : CallList) → AllRefuse list
        → IfSome (option_map (as_loaded (Some version)) (cond b None (Some list))) AllRefuse
    unless true list h = tt
    unless false list h = loaded_refuses (Some version) list h

    by : (begun : Option CallList) → IfSome begun AllRefuse
        → IfSome (option_map (as_loaded (Some version)) (option_and_then (unless_idle table) begun)) AllRefuse
    by None h = tt
    by (Some list) h = unless (denies_no_call table list) list h

suffixes_refuse : (unit : Resolved) (table : Table) (key : List ℕ) → HasRefusals (unit_call_list unit table key)
unfolding unit_call_list
suffixes_refuse unit table key = list_refuses unit.systemd table (in_force (unit_listed unit key))

pub settings_refuse : (unit : Resolved) (table : Table) → AreRefusing (settings_of unit table)
settings_refuse unit table = record { default = default_refuses unit (codes "SystemCallErrorNumber"); suffixes = suffixes_refuse unit table (codes "SystemCallFilter") }
