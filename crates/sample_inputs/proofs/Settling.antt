-- The settings of a sample, which compute.
use Rattle.std.proofs.Common.{◌≡◌, ◌∙◌, ℕ, ◌<◌, ◌%◌, Bool, true, false, Option, Some, None, List, [], ◌∷◌, map, refl, sym, ap, subst}
use Rattle.std.specs.Prelude.{Ok, ◌==◌, ◌&&◌, ◌||◌, not, is_some, length, filter}
use Rattle.std.proofs.lemmas.Bool.{and_right}
use Rattle.std.specs.Option.{option_map}
use Rattle.std.specs.Fmt.{digits}
use Rattle.std.specs.Str.{is_utf8, chars}
use lib.Utf8.{encode}
use Rattle.launcher.specs.call_rules.declared.actions.Action.TheVariants.{KillProcess}
use Rattle.launcher.specs.call_table.Table.{Abi, Table}
use Rattle.launcher.specs.cap_sets.Sets.{all, minus, none, union}
use Rattle.launcher.specs.cred_settings.Ambient.{ambient_of}
use Rattle.launcher.specs.cred_settings.Bounding.{bounding_of}
use Rattle.launcher.specs.cred_settings.CapLists.{unit_caps}
use Rattle.launcher.specs.cred_settings.Identities.{identity_of}
use Rattle.launcher.specs.cred_settings.NewPrivileges.{is_in_effect}
use Rattle.launcher.specs.cred_settings.declared.accounts.Identity.{Identity}
use Rattle.launcher.specs.dropin_merge.declared.resolved.Resolved.{Resolved}
use Rattle.launcher.specs.exec_settings.AreSettings.{AreSettings}
use Rattle.launcher.specs.exec_settings.Bounding.{left_of, taken_caps}
use Rattle.launcher.specs.exec_settings.Commands.{command_of, program_of}
use Rattle.launcher.specs.exec_settings.Launched.{reading_of, unit_command, unit_leaves_ids}
use Rattle.launcher.specs.exec_settings.Dynamic.{is_dynamic, sets_new_privileges, unit_filters}
use Rattle.launcher.specs.exec_settings.RunsAs.{unit_identity}
use Rattle.launcher.specs.exec_settings.Groups.{missing_group}
use Rattle.launcher.specs.exec_settings.Keys.{keys}
use Rattle.launcher.specs.exec_settings.Mounts.{paths_refusal, unit_mentions, unit_switches}
use Rattle.launcher.specs.exec_settings.Profile.{outside_key}
use Rattle.launcher.specs.exec_settings.Refusals.{command_refusal, first_reason, group_refusal, identity_reason, identity_refusal}
use Rattle.launcher.specs.exec_settings.Refusals.{refusal_of}
use Rattle.launcher.specs.exec_settings.Settings.{unit_program}
use Rattle.launcher.specs.exec_settings.declared.errors.SettingsError.{SettingsError}
use Rattle.launcher.specs.exec_settings.declared.errors.SettingsError.TheVariants.{MissingGroup}
use Rattle.launcher.specs.exec_settings.declared.service.Settings.{Settings}
use Rattle.launcher.specs.filter_settings.filter_rules.Installed.{place_of, is_installed, installed}
use Rattle.launcher.specs.filter_settings.filter_rules.Names.{all_programs}
use Rattle.launcher.specs.filter_settings.declared.filter_rules.namespace_types.NamespaceTypes.{NamespaceTypes}
use Rattle.launcher.specs.filter_settings.declared.filter_rules.settings.FilterSettings.{FilterSettings}
use Rattle.launcher.specs.filter_settings.declared.filter_rules.installed.Filter.{Filter}
use Rattle.launcher.specs.filter_settings.Architectures.{unit_refuses_second}
use Rattle.launcher.specs.filter_settings.CallLists.{unit_call_list}
use Rattle.launcher.specs.filter_settings.declared.filter_rules.personality.Domain.TheVariants.{Linux}
use Rattle.launcher.specs.filter_settings.FamilyLists.{unit_family_list}
use Rattle.launcher.specs.filter_settings.Namespaces.{unit_namespaces}
use Rattle.launcher.specs.mount_settings.Implied.{implied}
use Rattle.launcher.specs.mount_settings.Protections.{unit_protections}
use Rattle.launcher.specs.mount_settings.Settings.{mentions_of}
use Rattle.launcher.specs.mount_settings.Written.{unit_written}
use Rattle.launcher.specs.path_settings.declared.mentioned.Mentioned.TheVariants.{Base}
use Rattle.launcher.specs.site_table.Table.{Site}
use Rattle.launcher.specs.text_forms.Booleans.{bool_value, is_one_of}
use Rattle.launcher.specs.text_forms.Words.{words_of, words_in, text_only, closed_only, mark_of, open_after, escape_of, symbols_of}
use Rattle.launcher.specs.dropin_merge.unit_values.Assignments.{service_assignments}
use Rattle.launcher.specs.dropin_merge.unit_values.Lasting.{unit_last, unit_last_text}
use Rattle.launcher.specs.dropin_merge.unit_values.Listed.{unit_listed}
use Rattle.launcher.specs.dropin_merge.unit_values.Words.{unit_words}
use Rattle.launcher.proofs.OfFilterSettings.Joined.{made}
use Rattle.sample_inputs.specs.Facts.{program}
use Rattle.sample_inputs.specs.sample_launch.Mentions.{sample_mentions}
use Rattle.launcher.specs.filter_settings.filter_rules.Memory.{marks_memory}
use Rattle.sample_inputs.specs.sample_launch.Settled.{AreSampleSettings, SettingsAreNotRefused, SettingsAreTheSamples}
use Rattle.sample_inputs.proofs.SampleLaunchTurns.{same_half}
use Rattle.sample_inputs.proofs.Alike.{below_four, site_by, same_mentions, same_twice, site_is, turn_below, unit_by, unit_is}

-- the user of a sample, with no further groups
abbrev app : Identity
app = record { uid = 100; gid = 100; groups = [] }

abbrev any_namespace : NamespaceTypes
any_namespace = record { cgroup = true; ipc = true; net = true; mnt = true; pid = true; user = true; uts = true }

-- no filter is asked for
abbrev bare_but : Bool → FilterSettings
bare_but refused = made false false false false false false false false false KillProcess any_namespace None None refused None false Linux

abbrev bare : FilterSettings
bare = bare_but false

none_installed : (second : Option Abi) → filter (is_installed bare) (all_programs second) ≡ []
none_installed None = refl
none_installed (Some second) = refl

or_false : (b : Bool) → (b || false) ≡ b
or_false true = refl
or_false false = refl

-- ---- the four units, part by part

launches : (unit : Resolved) (site : Site) (m : ℕ) → m < 4 → unit_program (unit_by unit m) site ≡ Some program
unfolding unit_program unit_command reading_of command_of program_of service_assignments words_of words_in text_only closed_only mark_of open_after
    escape_of symbols_of is_utf8 chars encode
launches unit site m h = below_four (λ m. unit_program (unit_by unit m) site ≡ Some program) refl refl refl refl m h

command_passes : (unit : Resolved) (site : Site) (m : ℕ) → m < 4 → command_refusal (unit_by unit m) site ≡ None
unfolding command_refusal outside_key keys unit_command reading_of command_of program_of unit_written service_assignments digits words_of words_in
    text_only closed_only mark_of open_after escape_of symbols_of is_utf8 chars encode
command_passes unit site m h = below_four (λ m. command_refusal (unit_by unit m) site ≡ None) refl refl refl refl m h

user_passes : (unit : Resolved) (site : Site) (m : ℕ) → m < 4
    → unit_identity (unit_by unit m) (site_by site) ≡ Ok app
unfolding is_dynamic identity_of unit_last unit_last_text unit_words service_assignments unit_leaves_ids unit_command reading_of command_of
    program_of words_of words_in text_only closed_only mark_of open_after escape_of symbols_of is_utf8 chars encode
user_passes unit site m h = below_four (λ m. unit_identity (unit_by unit m) (site_by site) ≡ Ok app) refl refl refl refl m h

unfiltered : (unit : Resolved) (table : Table) (m : ℕ) → m < 4 → unit_filters (unit_by unit m) table ≡ bare
unfolding unit_filters is_dynamic unit_call_list unit_family_list unit_namespaces unit_refuses_second unit_last unit_listed
    service_assignments
unfiltered unit table m h =
    below_four (λ m. unit_filters (unit_by unit m) table ≡ bare_but (is_some table.second && false)) refl refl refl refl m h
    ∙ ap bare_but (and_right (is_some table.second) false refl)

unfiltered_installs : (unit : Resolved) (table : Table) (m : ℕ) → m < 4 → installed (unit_filters (unit_by unit m) table) table ≡ []
unfiltered_installs unit table m h = ap (λ settings. installed settings table) (unfiltered unit table m h) ∙ none_installed table.second

paths_pass : (unit : Resolved) (m : ℕ) → m < 4 → paths_refusal (unit_by unit m) ≡ None
unfolding paths_refusal unit_written service_assignments digits words_of words_in text_only closed_only mark_of open_after escape_of
    symbols_of is_utf8 chars encode
paths_pass unit m h = below_four (λ m. paths_refusal (unit_by unit m) ≡ None) refl refl refl refl m h

pub mentioned : (unit : Resolved) (site : Site) (m : ℕ) → m < 4 → unit_mentions (unit_by unit m) site ≡ Base (sample_mentions m)
unfolding unit_mentions mentions_of implied unit_switches is_dynamic unit_protections unit_written unit_last service_assignments digits
    words_of words_in text_only closed_only mark_of open_after escape_of symbols_of is_utf8 chars encode
mentioned unit site m h = below_four (λ m. unit_mentions (unit_by unit m) site ≡ Base (sample_mentions m)) refl refl refl refl m h

bounded : (unit : Resolved) (m : ℕ) → m < 4 → bounding_of (unit_by unit m) ≡ all
unfolding unit_caps unit_listed service_assignments
bounded unit m h = below_four (λ m. bounding_of (unit_by unit m) ≡ all) refl refl refl refl m h

no_ambient : (unit : Resolved) (m : ℕ) → m < 4 → ambient_of (unit_by unit m) ≡ none
unfolding unit_caps unit_listed service_assignments
no_ambient unit m h = below_four (λ m. ambient_of (unit_by unit m) ≡ none) refl refl refl refl m h

set_by_halves : (unit : Resolved) (m : ℕ) → m < 4 → sets_new_privileges (unit_by unit m) ≡ (m % 2 == 0)
unfolding is_dynamic unit_last service_assignments bool_value is_one_of is_utf8 chars encode
set_by_halves unit m h = below_four (λ m. sets_new_privileges (unit_by unit m) ≡ (m % 2 == 0)) refl refl refl refl m h

-- ---- no reason to refuse them

group_passes : (unit : Resolved) (table : Table) (m : ℕ) → m < 4 → group_refusal (unit_by unit m) table ≡ None
unfolding group_refusal missing_group
group_passes unit table m h = ap (λ settings. option_map MissingGroup (missing_group table settings)) (unfiltered unit table m h)

none_of_four : (a b c d : Option SettingsError) → a ≡ None → b ≡ None → c ≡ None → d ≡ None → first_reason (a ∷ b ∷ c ∷ d ∷ []) ≡ None
none_of_four a b c d not_a not_b not_c not_d =
    ap (λ reason. first_reason (reason ∷ b ∷ c ∷ d ∷ [])) not_a
    ∙ ap (λ reason. first_reason (reason ∷ c ∷ d ∷ [])) not_b
    ∙ ap (λ reason. first_reason (reason ∷ d ∷ [])) not_c
    ∙ ap (λ reason. first_reason (reason ∷ [])) not_d

no_refusal : (unit : Resolved) (table : Table) (site : Site) (m : ℕ) → m < 4 → refusal_of (unit_by unit m) table (site_by site) ≡ None
unfolding refusal_of identity_refusal
no_refusal unit table site m h = none_of_four _ _ _ _ (command_passes unit (site_by site) m h) (ap identity_reason (user_passes unit site m h))
    (group_passes unit table m h) (paths_pass unit m h)

pub are_not_refused : SettingsAreNotRefused
are_not_refused n unit table site says has =
    ap (λ one. refusal_of one table site) (unit_is n unit says)
    ∙ ap (refusal_of (unit_by unit (n % 4)) table) (site_is site has)
    ∙ no_refusal unit table site (n % 4) (turn_below n)

-- ---- what their settings are

no_names : (filters : List Filter) → map place_of filters ≡ [] → filters ≡ []
no_names [] e = refl
no_names (one ∷ filters) e = cc

module _ (unit : Resolved) (table : Table) (site : Site) (made : Settings) (m : ℕ) (h : m < 4) (are : AreSettings (unit_by unit m) table (site_by site) made) where
  its_program : made.program ≡ program
  its_program = let e = are.launches_the_first_command in let f = launches unit (site_by site) m h in cc

  its_identity : record { uid = made.uid; gid = made.gid; groups = made.groups } ≡ app
  its_identity = let e = are.runs_as in let f = user_passes unit site m h in cc

  its_bounding : made.bounding ≡ all
  unfolding taken_caps all minus union none
  its_bounding = are.bounding_without_what_is_taken ∙ ap (λ set. left_of set (unit_filters (unit_by unit m) table)) (bounded unit m h)
      ∙ ap (left_of all) (unfiltered unit table m h)

  its_filters : made.filters.items ≡ []
  its_filters = no_names made.filters.items (are.filters_as_wanted.exactly_those_on ∙ unfiltered_installs unit table m h)

  its_privileges : made.no_new_privs ≡ (m % 2 == 0)
  its_privileges =
      are.new_privileges
      ∙ ap (λ places. is_in_effect (sets_new_privileges (unit_by unit m)) (not (length places == 0)) made.uid
      (ambient_of (unit_by unit m))) (unfiltered_installs unit table m h)
      ∙ ap (λ on. on || false) (set_by_halves unit m h)
      ∙ or_false (m % 2 == 0)

  are_of_four : AreSampleSettings m made
  are_of_four = record {
    launches = its_program;
    uid = ap (λ one. one.uid) its_identity;
    gid = ap (λ one. one.gid) its_identity;
    groups = ap (λ one. one.groups) its_identity;
    bounding = its_bounding;
    ambient = are.ambient ∙ no_ambient unit m h;
    filters = its_filters;
    keeps = are.keeps_for_the_filters;
    new_privileges = its_privileges;
    memory = are.refuses_memory ∙ ap marks_memory (unfiltered unit table m h);
    mentions = are.mentions_written_and_implied ∙ mentioned unit (site_by site) m h;
  }

-- the settings of two samples with the same turn are the same
of_its_turn : (n m : ℕ) (made : Settings) → n % 4 ≡ m % 4 → AreSampleSettings m made → AreSampleSettings n made
of_its_turn n m made same are = record {
  launches = are.launches;
  uid = are.uid;
  gid = are.gid;
  groups = are.groups;
  bounding = are.bounding;
  ambient = are.ambient;
  filters = are.filters;
  keeps = are.keeps;
  new_privileges = are.new_privileges ∙ ap (λ half. half == 0) (sym (same_half n m same));
  memory = are.memory;
  mentions = are.mentions ∙ ap Base (sym (same_mentions n m same));
}

pub are_the_samples : SettingsAreTheSamples
are_the_samples n unit table site made says has are =
    of_its_turn n (n % 4) made (same_twice n)
    (are_of_four unit table site made (n % 4) (turn_below n)
    (subst (λ one. AreSettings (unit_by unit (n % 4)) table one made) (site_is site has)
    (subst (λ one. AreSettings one table site made) (unit_is n unit says) are)))
