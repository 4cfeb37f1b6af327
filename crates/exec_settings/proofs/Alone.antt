-- The settings of a unit whose service has just a command.
use Rattle.mount_settings.specs.abs_path.Paths.{Path}
use Rattle.std.specs.Option.{option_map, option_map_or}
use Rattle.cred_settings.specs.unit_grammar.declared.notes.NoteCause.TheVariants.{Unjudged}
use Rattle.mount_settings.specs.unit_names.Expansion.{expansion}
use Rattle.cred_settings.specs.dropin_merge.declared.unit_values.value.Place.{Place}
use Rattle.cred_settings.specs.dropin_merge.declared.unit_values.value.Value.{Value}
use Rattle.cred_settings.specs.dropin_merge.unit_values.Notes.{noted}
use Rattle.cred_settings.specs.dropin_merge.unit_values.Lines.{listed_line}
use Rattle.cred_settings.proofs.OfDropinMerge.OneMore.{after_last-push}
use Rattle.std.proofs.Common.{◌≡◌, ℕ, Bool, true, false, Ok, Option, Some, None, List, [], ◌∷◌, ◌++◌, map, codes, refl, sym, ap, ◌∙◌}
use Rattle.std.proofs.Common.{append-nil, subst}
use Rattle.std.specs.Prelude.{◌||◌, ◌&&◌, ◌==◌, not, is_some, nat_lt, length, slice_get, flat_map, Result, filter, cond}
use Rattle.std.specs.Prelude.{option_and_then}
use Rattle.std.specs.List.{cons_option, filter_map, list_any}
use Rattle.std.specs.Str.{bytes_eq}
use Rattle.mount_settings.specs.unit_names.declared.version.Version.{Version}
use Rattle.cred_settings.specs.dropin_merge.declared.resolved.Resolved.{Resolved}
use Rattle.cred_settings.specs.dropin_merge.unit_values.Flags.{flag_value, unit_flag, unit_flag_notes}
use Rattle.cred_settings.specs.dropin_merge.unit_values.Lasting.{last_read, last_text, unit_last, unit_last_notes, unit_last_text}
use Rattle.cred_settings.specs.dropin_merge.unit_values.Lasting.{unread_notes}
use Rattle.cred_settings.specs.dropin_merge.unit_values.Listed.{listed, unit_listed, unit_listed_notes}
use Rattle.cred_settings.specs.dropin_merge.unit_values.Values.{expanded_at, given_by, in_force as in_force_values, note_of, noted_unless}
use Rattle.cred_settings.specs.dropin_merge.unit_values.Values.{notes_of, unexpanded_at, values_of, written_by, written_values}
use Rattle.cred_settings.specs.dropin_merge.unit_values.Assignments.{service_assignments}
use Rattle.mount_settings.specs.unit_names.declared.version.Version.{Version}
use Rattle.cred_settings.specs.dropin_merge.unit_values.Words.{split, unit_words, unit_words_notes, words_in}
use Rattle.cred_settings.specs.cap_sets.Sets.{all, cut, has, minus, none, union}
use Rattle.cred_settings.proofs.OfCapSets.Members.{has_cut, has_none, same_sets}
use Rattle.filter_settings.specs.call_rules.declared.actions.Action.TheVariants.{KillProcess}
use Rattle.filter_settings.specs.declared.filter_rules.namespace_types.NamespaceTypes.{NamespaceTypes}
use Rattle.filter_settings.specs.call_table.Table.{Table}
use Rattle.cred_settings.specs.site_table.Table.{Site}
use Rattle.mount_settings.specs.path_settings.Keys.{key_named}
use Rattle.filter_settings.specs.filter_rules.Names.{all_programs}
use Rattle.filter_settings.specs.filter_rules.Installed.{place_of, is_installed, installed}
use Rattle.filter_settings.specs.call_table.Table.{Abi}
use Rattle.std.proofs.lemmas.Bool.{and_right}
use Rattle.filter_settings.specs.Architectures.{is_second, is_read, value_notes, unit_refuses_second, unit_architectures_notes}
use Rattle.filter_settings.specs.declared.filter_rules.installed.Filter.{Filter}
use Rattle.filter_settings.specs.declared.filter_rules.settings.FilterSettings.{FilterSettings}
use Rattle.filter_settings.specs.CallLists.{call_list, call_notes, unit_call_list, unit_call_list_notes}
use Rattle.filter_settings.specs.ErrorActions.{default_action, error_action_value, unit_error_action}
use Rattle.filter_settings.specs.FamilyLists.{family_list, family_notes, unit_family_list, unit_family_list_notes}
use Rattle.filter_settings.specs.Lines.{in_force}
use Rattle.filter_settings.specs.filter_rules.GivingUp.{may_give_up}
use Rattle.filter_settings.specs.filter_rules.Memory.{marks_memory}
use Rattle.filter_settings.specs.Namespaces.{namespaces_notes, namespaces_of, unit_namespaces, unit_namespaces_notes}
use Rattle.filter_settings.specs.Settings.{filter_notes, list_notes, protection_notes as flag_protection_notes, restriction_notes}
use Rattle.filter_settings.specs.Settings.{settings_of}
use Rattle.cred_settings.specs.declared.accounts.Identity.{Identity}
use Rattle.cred_settings.specs.declared.error.IdentityError.{IdentityError}
use Rattle.cred_settings.specs.Ambient.{ambient_of}
use Rattle.cred_settings.specs.CapLists.{caps_read, names_notes, unit_caps, unit_caps_notes}
use Rattle.cred_settings.specs.dropin_merge.unit_names.Versions.{is_known}
use Rattle.cred_settings.specs.dropin_merge.unit_names.declared.version.Version.TheVariants.{V252, V257}
use Rattle.cred_settings.specs.dropin_merge.unit_names.declared.version.Version.{Version}
use Rattle.cred_settings.specs.CapSums.{counted}
use Rattle.cred_settings.specs.Groups.{group_word}
use Rattle.cred_settings.specs.FurtherGroups.{further_words}
use Rattle.cred_settings.specs.Identities.{identity_from, identity_notes, identity_of}
use Rattle.cred_settings.specs.NewPrivileges.{is_in_effect, is_in_effect_by, is_in_effect_in, is_keeping}
use Rattle.cred_settings.specs.Users.{superuser}
use Rattle.mount_settings.specs.declared.protections.Switches.{Switches}
use Rattle.mount_settings.specs.Assigned.{assigned_by, dialect_of, given_to, key_of}
use Rattle.mount_settings.specs.Protections.{protection_notes}
use Rattle.mount_settings.specs.Notes.{given_notes, notes_by, written_notes}
use Rattle.mount_settings.specs.Settings.{all_mentions, nothing_in}
use Rattle.mount_settings.specs.Written.{unit_written, written}
use Rattle.exec_settings.specs.declared.service.Settings.{Settings}
use Rattle.exec_settings.specs.AreSettings.{AreSettings}
use Rattle.exec_settings.specs.Bare.{HasCommandAlone, AreBare, MeansItsCommand}
use Rattle.exec_settings.specs.declared.errors.SettingsError.{SettingsError}
use Rattle.exec_settings.specs.declared.errors.SettingsError.TheVariants.{MissingGroup, TooManyPaths}
use Rattle.exec_settings.specs.Groups.{missing_group}
use Rattle.exec_settings.specs.Refusals.{command_refusal, first_reason, group_refusal, identity_reason, identity_refusal, refusal_of}
use Rattle.exec_settings.specs.Bounding.{taken_caps}
use Rattle.exec_settings.specs.Launched.{command_in, command_notes, later_causes, launched_of, note_by, reading_of, unexpanded_by}
use Rattle.exec_settings.specs.Launched.{unit_command, unit_command_notes, unit_leaves_ids, values_by}
use Rattle.exec_settings.specs.declared.commands.Reading.{Reading}
use Rattle.exec_settings.specs.declared.commands.Reading.TheVariants.{Launches, Noted}
use Rattle.exec_settings.specs.Judged.{unjudged_at, unjudged_notes}
use Rattle.exec_settings.specs.Keys.{is_judged, keys}
use Rattle.exec_settings.specs.Notes.{all_notes, credential_notes, grammar_notes, text_notes}
use Rattle.exec_settings.specs.Order.{AreInOrder}
use Rattle.exec_settings.specs.Dynamic.{dynamic_notes, is_dynamic, sets_new_privileges, unit_filters, with_dynamic_user}
use Rattle.exec_settings.specs.Mounts.{paths_refusal, unit_mentions, unit_switches}
use Rattle.exec_settings.specs.RunsAs.{unit_identity}
use Rattle.exec_settings.specs.Filtered.{counts_as_filter, has_value, is_filtered}
use Rattle.exec_settings.specs.Settings.{ambient_within, new_privileges_by, program_path, unit_ambient, unit_bounding, unit_keeps, unit_new_privileges, unit_program}
use Rattle.filter_settings.specs.Domains.{domain_named}
use Rattle.filter_settings.specs.declared.filter_rules.personality.Domain.TheVariants.{Linux}
use Rattle.filter_settings.proofs.Joined.{made}
use Rattle.exec_settings.proofs.FilterSame.{same_settings}
use Rattle.mount_settings.proofs.SameUnits.{each_but, mentions_nothing, mount_keys, noted_keys, notes_nothing}

abbrev any_namespace : NamespaceTypes
any_namespace = record { cgroup = true; ipc = true; net = true; mnt = true; pid = true; user = true; uts = true }

abbrev bare : Option Version → FilterSettings
bare systemd = made false false false false false false false false false KillProcess any_namespace None None false systemd false Linux

abbrev unswitched : Switches
unswitched = record { private_devices = false; protect_kernel_modules = false; protect_kernel_logs = false; dynamic_user = false }

-- no filter of bare settings is installed
none_installed : (systemd : Option Version) (second : Option Abi) → filter (is_installed (bare systemd)) (all_programs second) ≡ []
none_installed None None = refl
none_installed None (Some second) = refl
none_installed (Some version) None = refl
none_installed (Some version) (Some second) = refl

no_names : (filters : List Filter) → map place_of filters ≡ [] → filters ≡ []
no_names [] e = refl
no_names (one ∷ filters) e = cc

same_identity : (own other : Identity) (answer : Result Identity IdentityError) → answer ≡ Ok own → answer ≡ Ok other → own ≡ other
same_identity own other answer e f = cc

-- the same for all versions
either_way : {X : Type 0} (b : Bool) (x y : X) → x ≡ y → cond b x y ≡ y
either_way true x y e = e
either_way false x y e = refl

abbrev superuser_in : List ℕ → Result Identity IdentityError
superuser_in groups = Ok (record { uid = 0; gid = 0; groups = groups })

superuser_is : (systemd : Option Version) (site : Site) (leaves : Bool) → identity_from systemd site false leaves [] [] [] ≡ Ok superuser
superuser_is systemd site true = ap superuser_in (either_way (is_known systemd) [] [] refl)
superuser_is systemd site false = ap superuser_in (append-nil (cond (is_known systemd) [] []) ∙ either_way (is_known systemd) [] [] refl)

unsaid_caps : (systemd : Option Version) (default : Option ℕ) → caps_read systemd default [] ≡ counted default
unsaid_caps systemd default = either_way (is_known systemd) (counted default) (counted default) refl

cut_none : (set : ℕ) → cut none set ≡ none
cut_none set = same_sets (cut none set) none
    (λ number. has_cut none set number ∙ ap (λ b. b && has set number) (has_none number) ∙ sym (has_none number))

none_within : (systemd : Option Version) (bounding : ℕ) → ambient_within systemd none bounding ≡ none
none_within systemd bounding = either_way (is_known systemd) (cut none bounding) none (cut_none bounding)

unkept : (systemd : Option Version) (uid : ℕ) (gives : Bool) → is_keeping systemd false uid gives ≡ false
unkept None uid gives = refl
unkept (Some V252) uid gives = refl
unkept (Some V257) uid gives = refl

never : (systemd : Option Version) (uid ambient : ℕ) (keeps : Bool) → is_in_effect_in systemd false false false uid ambient keeps ≡ false
never systemd uid ambient keeps =
    either_way (is_known systemd) (is_in_effect_by false false uid keeps) (is_in_effect false false uid ambient) refl

first_alone : (reason : Option SettingsError) → first_reason (reason ∷ None ∷ None ∷ None ∷ []) ≡ reason
first_alone None = refl
first_alone (Some reason) = refl

none_of : {X : Type 0} (a b : List X) → a ≡ [] → b ≡ [] → a ++ b ≡ []
none_of a b e f = ap (λ xs. xs ++ b) e ∙ f

still : {X : Type 0} (a b c : List X) → a ≡ c → b ≡ [] → a ++ b ≡ c
still a b c e f = ap (λ xs. a ++ xs) f ∙ append-nil a ∙ e

later_alone : (unit : Resolved) (value : Value) (b : Bool) → noted (later_causes unit) (cond b [] (value ∷ [])) ≡ []
later_alone unit value true = refl
later_alone unit value false = refl

module _ (unit : Resolved) (site : Site) (path : Path) where
  -- the only value is launched, is in force and is not noted
  launched_value : (value : Value) (b : Bool) (reading : Reading)
      → program_path unit site (slice_get (cond b [] (cons_option (command_in reading) [])) 0) ≡ Some path
      → cons_option (cond b None (note_by value reading)) [] ≡ []
  launched_value value true reading launched = refl
  launched_value value false (Noted cause) launched = cc
  launched_value value false (Launches command) launched = refl

  cond_commands : (value : Value) (b : Bool) → filter_map (λ one. command_in (reading_of unit one)) (cond b [] (value ∷ []))
      ≡ cond b [] (cons_option (command_in (reading_of unit value)) [])
  cond_commands value true = refl
  cond_commands value false = refl

  launched_one : (value : Value) → program_path unit site (launched_of unit (value ∷ [])) ≡ Some path
      → command_notes unit (value ∷ []) ≡ []
  launched_one value launched =
      let kept : in_force_values (value ∷ []) ≡ cond (length value.text == 0) [] (value ∷ []) = after_last-push
      (λ one. length one.text == 0) [] value in
      none_of _ _
      (launched_value value (length value.text == 0) (reading_of unit value)
      (sym (ap (λ commands. program_path unit site (slice_get commands 0))
      (ap (filter_map (λ one. command_in (reading_of unit one))) kept ∙ cond_commands value (length value.text == 0))) ∙ launched))
      (ap (noted (later_causes unit)) kept ∙ later_alone unit value (length value.text == 0))

  launched_alone : (place : Place) (text : Option (List ℕ))
      → program_path unit site (launched_of unit (cons_option (option_map (λ text. record { place = place; text = text }) text) []))
      ≡ Some path → cons_option (noted_unless text place) [] ++ command_notes unit
      (cons_option (option_map (λ text. record { place = place; text = text }) text) []) ≡ []
  launched_alone place None launched = cc
  launched_alone place (Some text) launched = launched_one (record { place = place; text = text }) launched

module _ (unit : Resolved) (h : HasCommandAlone unit) where
  -- every other key has no value
  nothing : (key : List ℕ) → bytes_eq (codes "ExecStart") key ≡ false → values_of unit key ≡ []
  nothing key differs =
      ap (filter_map (given_by unit.systemd unit.name key)) h.alone
      ∙ ap (λ is. cons_option (cond is (expanded_at unit.systemd unit.name (h.place, h.assignment)) None) [])
      (ap (λ name. bytes_eq name key) h.command ∙ differs)

  unsaid : {X : Type 0} (read : List ℕ → Option X) (default : X) (key : List ℕ) → bytes_eq (codes "ExecStart") key ≡ false
      → unit_last read default unit key ≡ default
  unfolding unit_last
  unsaid read default key differs = ap (last_read read default) (nothing key differs)

  off : (key : List ℕ) → bytes_eq (codes "ExecStart") key ≡ false → unit_flag unit key ≡ false
  off key differs = unsaid flag_value false key differs

  unlisted : (key : List ℕ) → bytes_eq (codes "ExecStart") key ≡ false → unit_listed unit key ≡ []
  unfolding unit_listed
  unlisted key differs = ap (filter_map listed) (nothing key differs)

  wordless : (key : List ℕ) → bytes_eq (codes "ExecStart") key ≡ false → unit_words unit key ≡ []
  unfolding unit_words
  wordless key differs = ap words_in (nothing key differs)

  textless : (key : List ℕ) → bytes_eq (codes "ExecStart") key ≡ false → unit_last_text unit key ≡ []
  unfolding unit_last_text
  textless key differs = ap last_text (nothing key differs)

  -- filters
  no_calls : (table : Table) → unit_call_list unit table (codes "SystemCallFilter") ≡ None
  unfolding unit_call_list
  no_calls table = ap (λ lines. call_list unit.systemd table (in_force lines)) (unlisted (codes "SystemCallFilter") refl) ∙ by unit.systemd
    where
      by : (systemd : Option Version) → call_list systemd table [] ≡ None
      by None = refl
      by (Some version) = refl

  no_families : (table : Table) → unit_family_list unit table (codes "RestrictAddressFamilies") ≡ None
  unfolding unit_family_list
  no_families table = ap (λ lines. family_list unit.systemd table (in_force lines)) (unlisted (codes "RestrictAddressFamilies") refl)
      ∙ by unit.systemd
    where
      by : (systemd : Option Version) → family_list systemd table [] ≡ None
      by None = refl
      by (Some version) = refl

  all_namespaces : unit_namespaces unit (codes "RestrictNamespaces") ≡ any_namespace
  unfolding unit_namespaces
  all_namespaces = ap (namespaces_of unit.systemd) (unlisted (codes "RestrictNamespaces") refl)

  killing : unit_error_action unit (codes "SystemCallErrorNumber") ≡ KillProcess
  killing = ap (λ value. value.action) (unsaid error_action_value default_action (codes "SystemCallErrorNumber") refl)

  no_second_refused : (table : Table) → unit_refuses_second unit table (codes "SystemCallArchitectures") ≡ false
  unfolding unit_refuses_second
  no_second_refused table =
      ap (λ (values : List Value). is_some table.second &&
      (list_any is_read (in_force_values values) && not
      (list_any (is_second table) (unit_words unit (codes "SystemCallArchitectures")))))
      (nothing (codes "SystemCallArchitectures") refl)
      ∙ and_right (is_some table.second) false refl

  settings_bare : (table : Table) → settings_of unit table ≡ bare unit.systemd
  settings_bare table =
      same_settings _ None _ KillProcess _ None _ any_namespace _ unit.systemd _ false _ false _ false _ false _ false _ false _ false
      _ false _ false _ false _ false _ Linux
      (no_calls table) killing (no_families table) all_namespaces refl (off (codes "MemoryDenyWriteExecute") refl)
      (off (codes "RestrictRealtime") refl) (off (codes "RestrictSUIDSGID") refl)
      (off (codes "LockPersonality") refl) (off (codes "ProtectHostname") refl) (off (codes "ProtectKernelModules") refl)
      (off (codes "ProtectKernelLogs") refl) (off (codes "ProtectClock") refl) (off (codes "PrivateDevices") refl)
      (no_second_refused table) (off (codes "ProtectKernelTunables") refl)
      (unsaid (domain_named table) Linux (codes "Personality") refl)

  not_dynamic : is_dynamic unit ≡ false
  unfolding is_dynamic
  not_dynamic = off (codes "DynamicUser") refl

  filters_bare : (table : Table) → unit_filters unit table ≡ bare unit.systemd
  unfolding unit_filters
  filters_bare table = ap (λ on. with_dynamic_user on (settings_of unit table)) not_dynamic
      ∙ ap (with_dynamic_user false) (settings_bare table)

  none_on : (table : Table) → installed (unit_filters unit table) table ≡ []
  none_on table = ap (λ settings. installed settings table) (filters_bare table) ∙ none_installed unit.systemd table.second

  -- users, groups and capabilities
  is_superuser : (site : Site) → unit_identity unit site ≡ Ok superuser
  unfolding identity_of
  is_superuser site =
      ap (λ on. identity_of unit site on (unit_leaves_ids unit)) not_dynamic
      ∙ ap (λ word. identity_from unit.systemd site false (unit_leaves_ids unit) word (group_word unit) (further_words unit))
      (textless (codes "User") refl)
      ∙ ap (λ word. identity_from unit.systemd site false (unit_leaves_ids unit) [] word (further_words unit)) (textless (codes "Group") refl)
      ∙ ap (identity_from unit.systemd site false (unit_leaves_ids unit) [] []) (wordless (codes "SupplementaryGroups") refl)
      ∙ superuser_is unit.systemd site (unit_leaves_ids unit)

  bounding_all : (table : Table) → unit_bounding unit table ≡ all
  unfolding taken_caps unit_caps all minus union none
  bounding_all table =
      ap (λ lines. minus (caps_read unit.systemd None lines) (taken_caps (unit_filters unit table)))
      (unlisted (codes "CapabilityBoundingSet") refl)
      ∙ ap (λ set. minus set (taken_caps (unit_filters unit table))) (unsaid_caps unit.systemd None)
      ∙ ap (λ settings. minus all (taken_caps settings)) (filters_bare table)

  key_of_none : ambient_of unit ≡ none
  unfolding unit_caps
  key_of_none = ap (caps_read unit.systemd (Some none)) (unlisted (codes "AmbientCapabilities") refl)
      ∙ unsaid_caps unit.systemd (Some none)

  ambient_none : (table : Table) → unit_ambient unit table ≡ none
  ambient_none table = ap (λ set. ambient_within unit.systemd set (unit_bounding unit table)) key_of_none
      ∙ none_within unit.systemd (unit_bounding unit table)

  valueless : (key : List ℕ) → bytes_eq (codes "ExecStart") key ≡ false → has_value unit key ≡ false
  valueless key differs = ap (λ (values : List Value). not (length (in_force_values values) == 0)) (nothing key differs)

  none_counts : counts_as_filter unit ≡ false
  unfolding counts_as_filter
  none_counts =
      ap (λ on. on || (has_value unit (codes "SystemCallArchitectures") || has_value unit (codes "SystemCallLog")))
      (off (codes "ProtectKernelTunables") refl)
      ∙ ap (λ on. on || has_value unit (codes "SystemCallLog")) (valueless (codes "SystemCallArchitectures") refl)
      ∙ valueless (codes "SystemCallLog") refl

  unset : sets_new_privileges unit ≡ false
  unset = ap (λ on. on || is_dynamic unit) (off (codes "NoNewPrivileges") refl) ∙ not_dynamic

  unfiltered : (table : Table) → is_filtered unit (unit_filters unit table) table ≡ false
  unfiltered table =
      ap (λ settings. is_filtered unit settings table) (filters_bare table)
      ∙ ap (λ places. not (length places == 0) || counts_as_filter unit) (none_installed unit.systemd table.second)
      ∙ none_counts

  nothing_kept : (table : Table) (uid : ℕ) → unit_keeps unit table uid ≡ false
  nothing_kept table uid =
      ap (λ on. is_keeping unit.systemd on uid (may_give_up table (unit_filters unit table).calls)) (unfiltered table)
      ∙ unkept unit.systemd uid (may_give_up table (unit_filters unit table).calls)

  no_new : (table : Table) (uid : ℕ) → unit_new_privileges unit table uid ≡ false
  no_new table uid =
      ap (λ on. new_privileges_by unit on (unit_filters unit table) table uid (unit_ambient unit table)) unset
      ∙ ap (λ places. is_in_effect_in unit.systemd false (not (length places == 0)) (is_filtered unit (unit_filters unit table) table) uid
      (unit_ambient unit table) (unit_keeps unit table uid)) (none_on table)
      ∙ ap (λ on. is_in_effect_in unit.systemd false false on uid (unit_ambient unit table) (unit_keeps unit table uid)) (unfiltered table)
      ∙ never unit.systemd uid (unit_ambient unit table) (unit_keeps unit table uid)

  -- paths
  no_path_key : (systemd : Option Version) → key_named (dialect_of systemd) (codes "ExecStart") ≡ None
  no_path_key None = refl
  no_path_key (Some V252) = refl
  no_path_key (Some V257) = refl

  speaks_of_no_path : key_of unit.systemd h.assignment ≡ None
  speaks_of_no_path = ap (key_named (dialect_of unit.systemd)) h.command ∙ no_path_key unit.systemd

  nothing_written : unit_written unit ≡ []
  unfolding unit_written
  nothing_written =
      let dialect = dialect_of unit.systemd in
      ap (λ assignments. written dialect (filter_map (assigned_by unit.systemd unit.name) assignments)) h.alone
      ∙ ap (λ key. written dialect (cons_option (option_and_then (given_to unit.systemd unit.name (h.place, h.assignment)) key) []))
      speaks_of_no_path

  none_switched : unit_switches unit ≡ unswitched
  unfolding unit_switches
  none_switched =
      let a = off (codes "PrivateDevices") refl in
      let b = off (codes "ProtectKernelModules") refl in
      let c = off (codes "ProtectKernelLogs") refl in
      let d = not_dynamic in
      cc

  no_mentions : (site : Site) → unit_mentions unit site ≡ nothing_in unit.systemd
  unfolding unit_mentions
  no_mentions site =
      ap (λ switches. all_mentions unit site switches (unit_written unit)) none_switched
      ∙ ap (all_mentions unit site unswitched) nothing_written
      ∙ mentions_nothing unit (each_but (codes "ExecStart") (λ key. values_of unit key ≡ []) nothing mount_keys refl) site

  -- notes
  unnoted : (key : List ℕ) → bytes_eq (codes "ExecStart") key ≡ false → notes_of unit key ≡ []
  unnoted key differs =
      ap (filter_map (note_of unit.systemd unit.name key)) h.alone
      ∙ ap (λ is. cons_option (cond is (unexpanded_at unit.systemd unit.name (h.place, h.assignment)) None) [])
      (ap (λ name. bytes_eq name key) h.command ∙ differs)

  read_unnoted : {X : Type 0} (read : List ℕ → Option X) (key : List ℕ) → bytes_eq (codes "ExecStart") key ≡ false
      → unit_last_notes read unit key ≡ []
  unfolding unit_last_notes
  read_unnoted read key differs = none_of _ _ (unnoted key differs) (ap (unread_notes read) (nothing key differs))

  flag_unnoted : (key : List ℕ) → bytes_eq (codes "ExecStart") key ≡ false → unit_flag_notes unit key ≡ []
  flag_unnoted key differs = read_unnoted flag_value key differs

  lines_unnoted : (key : List ℕ) → bytes_eq (codes "ExecStart") key ≡ false → unit_listed_notes unit key ≡ []
  unfolding unit_listed_notes
  lines_unnoted key differs = none_of _ _ (unnoted key differs) (ap (unread_notes listed_line) (nothing key differs))

  words_unnoted : (key : List ℕ) → bytes_eq (codes "ExecStart") key ≡ false → unit_words_notes unit key ≡ []
  unfolding unit_words_notes
  words_unnoted key differs = none_of _ _ (unnoted key differs) (ap (unread_notes split) (nothing key differs))

  caps_unnoted : (key : List ℕ) → bytes_eq (codes "ExecStart") key ≡ false → unit_caps_notes unit key ≡ []
  unfolding unit_caps_notes
  caps_unnoted key differs = none_of _ _ (lines_unnoted key differs) (ap (flat_map names_notes) (unlisted key differs))

  calls_unnoted : (table : Table) → unit_call_list_notes unit table (codes "SystemCallFilter") ≡ []
  unfolding unit_call_list_notes
  calls_unnoted table = none_of _ _ (lines_unnoted (codes "SystemCallFilter") refl)
      (ap (call_notes unit.systemd table) (unlisted (codes "SystemCallFilter") refl))

  families_unnoted : (table : Table) → unit_family_list_notes unit table (codes "RestrictAddressFamilies") ≡ []
  unfolding unit_family_list_notes
  families_unnoted table = none_of _ _ (lines_unnoted (codes "RestrictAddressFamilies") refl)
      (ap (family_notes unit.systemd table) (unlisted (codes "RestrictAddressFamilies") refl))

  types_unnoted : unit_namespaces_notes unit (codes "RestrictNamespaces") ≡ []
  unfolding unit_namespaces_notes
  types_unnoted = none_of _ _ (lines_unnoted (codes "RestrictNamespaces") refl)
      (ap (namespaces_notes unit.systemd) (unlisted (codes "RestrictNamespaces") refl))

  architectures_unnoted : (table : Table) → unit_architectures_notes unit table (codes "SystemCallArchitectures") ≡ []
  unfolding unit_architectures_notes
  architectures_unnoted table = none_of _ _ (words_unnoted (codes "SystemCallArchitectures") refl)
      (ap (flat_map (value_notes table)) (nothing (codes "SystemCallArchitectures") refl))

  filters_unnoted : (table : Table) → filter_notes unit table ≡ []
  unfolding filter_notes restriction_notes flag_protection_notes list_notes
  filters_unnoted table =
      none_of _ _
      (none_of _ _
      (none_of _ _ (none_of _ _
      (none_of _ _ (flag_unnoted (codes "MemoryDenyWriteExecute") refl) (flag_unnoted (codes "RestrictRealtime") refl))
      (flag_unnoted (codes "RestrictSUIDSGID") refl)) (flag_unnoted (codes "LockPersonality") refl))
      (none_of _ _ (none_of _ _
      (none_of _ _ (none_of _ _ (flag_unnoted (codes "ProtectHostname") refl) (flag_unnoted (codes "ProtectKernelModules") refl))
      (flag_unnoted (codes "ProtectKernelLogs") refl)) (flag_unnoted (codes "ProtectClock") refl))
      (flag_unnoted (codes "PrivateDevices") refl)))
      (none_of _ _ (none_of _ _
      (none_of _ _ (none_of _ _ (read_unnoted error_action_value (codes "SystemCallErrorNumber") refl) types_unnoted)
      (families_unnoted table)) (calls_unnoted table)) (architectures_unnoted table))

  identity_unnoted : identity_notes unit ≡ []
  unfolding identity_notes
  identity_unnoted = none_of _ _ (none_of _ _ (unnoted (codes "User") refl) (unnoted (codes "Group") refl))
      (words_unnoted (codes "SupplementaryGroups") refl)

  credentials_unnoted : credential_notes unit ≡ []
  unfolding credential_notes dynamic_notes
  credentials_unnoted =
      none_of _ _ (flag_unnoted (codes "DynamicUser") refl)
      (none_of _ _ (caps_unnoted (codes "CapabilityBoundingSet") refl)
      (none_of _ _ (caps_unnoted (codes "AmbientCapabilities") refl)
      (none_of _ _ (flag_unnoted (codes "NoNewPrivileges") refl) identity_unnoted)))

  protections_unnoted : protection_notes unit ≡ []
  protections_unnoted =
      notes_nothing unit (each_but (codes "ExecStart") (λ key. values_of unit key ≡ []) nothing mount_keys refl)
      (each_but (codes "ExecStart") (λ key. notes_of unit key ≡ []) unnoted noted_keys refl)

  paths_unnoted : written_notes unit ≡ []
  unfolding written_notes
  paths_unnoted =
      ap (flat_map (notes_by unit.systemd unit.name)) h.alone
      ∙ ap (λ key. option_map_or (given_notes unit.systemd unit.name (h.place, h.assignment)) key [] ++ []) speaks_of_no_path

  judged_by : (systemd : Option Version) → filter_map (unjudged_at systemd) (service_assignments unit) ≡ []
  unfolding keys
  judged_by None =
      ap (filter_map (unjudged_at None)) h.alone
      ∙ ap (λ name. cons_option (cond (is_judged None name) None (Some (record { place = h.place; cause = Unjudged }))) []) h.command
  judged_by (Some version) =
      ap (filter_map (unjudged_at (Some version))) h.alone
      ∙ ap (λ name. cons_option (cond (is_judged (Some version) name) None (Some (record { place = h.place; cause = Unjudged }))) []) h.command

  all_judged : unjudged_notes unit ≡ []
  unfolding unjudged_notes
  all_judged = judged_by unit.systemd

  text_by_grammar : text_notes unit ≡ grammar_notes unit
  unfolding text_notes
  text_by_grammar = still _ _ _ refl all_judged

  -- the only value of ExecStart=, if it can be expanded
  command_value : values_of unit (codes "ExecStart") ≡ cons_option
      (option_map (λ text. record { place = h.place; text = text }) (expansion unit.systemd unit.name h.assignment.value)) []
  command_value =
      ap (filter_map (given_by unit.systemd unit.name (codes "ExecStart"))) h.alone
      ∙ ap (λ name. cons_option (cond (bytes_eq name (codes "ExecStart")) (expanded_at unit.systemd unit.name (h.place, h.assignment)) None) [])
      h.command

  command_note : notes_of unit (codes "ExecStart") ≡ cons_option (noted_unless (expansion unit.systemd unit.name h.assignment.value) h.place) []
  command_note =
      ap (filter_map (note_of unit.systemd unit.name (codes "ExecStart"))) h.alone
      ∙ ap (λ name. cons_option (cond (bytes_eq name (codes "ExecStart")) (unexpanded_at unit.systemd unit.name (h.place, h.assignment)) None) [])
      h.command

  -- the only value as it is written
  written_value : written_values unit (codes "ExecStart") ≡ record { place = h.place; text = h.assignment.value } ∷ []
  written_value =
      ap (filter_map (written_by (codes "ExecStart"))) h.alone
      ∙ ap (λ name. cons_option (cond (bytes_eq name (codes "ExecStart")) (Some (record { place = h.place; text = h.assignment.value })) None)
      []) h.command

  unnoted_by : (systemd : Option Version) (site : Site) (path : Path)
      → program_path unit site (launched_of unit (values_by systemd unit)) ≡ Some path
      → unexpanded_by systemd unit ++ command_notes unit (values_by systemd unit) ≡ []
  unnoted_by None site path launched =
      ap (λ notes. notes ++ command_notes unit (values_of unit (codes "ExecStart"))) command_note
      ∙ ap (λ values. cons_option (noted_unless (expansion unit.systemd unit.name h.assignment.value) h.place) []
      ++ command_notes unit values) command_value
      ∙ launched_alone unit site path h.place (expansion unit.systemd unit.name h.assignment.value)
      (sym (ap (λ values. program_path unit site (launched_of unit values)) command_value) ∙ launched)
  unnoted_by (Some version) site path launched =
      ap (command_notes unit) written_value
      ∙ launched_one unit site path (record { place = h.place; text = h.assignment.value })
      (sym (ap (λ values. program_path unit site (launched_of unit values)) written_value) ∙ launched)

  command_unnoted : (site : Site) (path : Path) → unit_program unit site ≡ Some path → unit_command_notes unit ≡ []
  unfolding unit_program unit_command unit_command_notes
  command_unnoted site path launched = unnoted_by unit.systemd site path launched

  noted_by_grammar : (table : Table) (site : Site) (path : Path) → unit_program unit site ≡ Some path → all_notes unit table ≡ grammar_notes unit
  unfolding all_notes
  noted_by_grammar table site path launched =
      still _ _ _ (still _ _ _ (still _ _ _ (still _ _ _ (still _ _ _ text_by_grammar paths_unnoted) (command_unnoted site path launched))
      credentials_unnoted) (filters_unnoted table)) protections_unnoted

  settings_are_bare : (table : Table) (site : Site) (made : Settings) → AreSettings unit table site made → AreBare unit made
  settings_are_bare table site made are =
      let ids = same_identity (record { uid = made.uid; gid = made.gid; groups = made.groups }) superuser (unit_identity unit site) are.runs_as (is_superuser site) in
      record {
        uid = ap (λ one. one.uid) ids;
        gid = ap (λ one. one.gid) ids;
        groups = ap (λ one. one.groups) ids;
        bounding = are.bounding_without_what_is_taken ∙ bounding_all table;
        ambient = are.ambient ∙ ambient_none table;
        keeps = are.keeps_for_the_filters ∙ nothing_kept table made.uid;
        new_privileges = are.new_privileges ∙ no_new table made.uid;
        memory = are.refuses_memory ∙ ap marks_memory (filters_bare table);
        filters = no_names made.filters.items (are.filters_as_wanted.exactly_those_on ∙ none_on table);
        mentions = are.mentions_written_and_implied ∙ no_mentions site;
        notes = subst (λ notes. AreInOrder notes made.notes.items)
            (noted_by_grammar table site made.program are.launches_the_first_command) are.all_notes_in_order;
      }

  -- refusals
  some_user : (site : Site) → identity_refusal unit site ≡ None
  unfolding identity_refusal
  some_user site = ap identity_reason (is_superuser site)

  no_group : (table : Table) → group_refusal unit table ≡ None
  unfolding group_refusal missing_group
  no_group table = ap (λ settings. option_map MissingGroup (missing_group table settings)) (filters_bare table)

  few_paths : paths_refusal unit ≡ None
  unfolding paths_refusal
  few_paths = ap (λ all. cond (nat_lt 128 (length all)) (Some TooManyPaths) None) nothing_written

  refused : (table : Table) (site : Site) → refusal_of unit table site ≡ command_refusal unit site
  unfolding refusal_of
  refused table site =
      ap (λ reason. first_reason (command_refusal unit site ∷ reason ∷ group_refusal unit table ∷ paths_refusal unit ∷ [])) (some_user site)
      ∙ ap (λ reason. first_reason (command_refusal unit site ∷ None ∷ reason ∷ paths_refusal unit ∷ [])) (no_group table)
      ∙ ap (λ reason. first_reason (command_refusal unit site ∷ None ∷ None ∷ reason ∷ [])) few_paths
      ∙ first_alone (command_refusal unit site)

  pub means_its_command : (table : Table) (site : Site) → MeansItsCommand unit table site
  means_its_command table site = record { refused_by_the_command = refused table site; bare = settings_are_bare table site }
