-- A unit without its other sections says the same.
use Rattle.std.proofs.Common.{◌≡◌, ℕ, ◌+◌, Bool, cond, Option, Some, None, List, [], ◌∷◌, ◌++◌, map, codes, refl, sym, ap, ◌∙◌, subst}
use Rattle.std.specs.Prelude.{◌||◌, ◌&&◌, ◌==◌, not, is_some, false, length, nat_lt, find, flat_map, unwrap_or}
use Rattle.std.specs.Option.{option_map, option_map_or}
use Rattle.std.specs.List.{enumerate_from, filter_map, list_any}
use Rattle.cred_settings.specs.dropin_merge.declared.unit_values.value.Value.{Value}
use Rattle.cred_settings.specs.dropin_merge.unit_values.Values.{notes_of, values_of, in_force as in_force_values}
use Rattle.cred_settings.specs.dropin_merge.declared.resolved.Resolved.{Resolved}
use Rattle.cred_settings.specs.dropin_merge.declared.resolved.UnitFile.{UnitFile}
use Rattle.cred_settings.specs.unit_grammar.Before.{last_of}
use Rattle.cred_settings.specs.dropin_merge.unit_values.Assignments.{service_alone, without_others}
use Rattle.cred_settings.specs.dropin_merge.unit_values.Flags.{flag_value, unit_flag, unit_flag_notes}
use Rattle.cred_settings.specs.dropin_merge.unit_values.Lasting.{last_read, last_text, unit_last, unit_last_notes, unit_last_text}
use Rattle.cred_settings.specs.dropin_merge.unit_values.Lasting.{unread_notes}
use Rattle.cred_settings.specs.dropin_merge.unit_values.Lines.{listed_line}
use Rattle.cred_settings.specs.dropin_merge.unit_values.Listed.{listed, unit_listed, unit_listed_notes}
use Rattle.cred_settings.specs.dropin_merge.unit_values.Words.{split, unit_words, unit_words_notes, words_in}
use Rattle.cred_settings.proofs.OfDropinMerge.Sections.{same_assignments, same_notes, same_values, same_written}
use Rattle.filter_settings.specs.call_table.Table.{Table}
use Rattle.cred_settings.specs.site_table.Table.{Site}
use Rattle.filter_settings.specs.CallLists.{call_list, call_notes, unit_call_list, unit_call_list_notes}
use Rattle.filter_settings.specs.ErrorActions.{default_action, error_action_value, unit_error_action}
use Rattle.filter_settings.specs.FamilyLists.{family_list, family_notes, unit_family_list, unit_family_list_notes}
use Rattle.filter_settings.specs.Lines.{in_force}
use Rattle.filter_settings.specs.filter_rules.GivingUp.{may_give_up}
use Rattle.filter_settings.specs.filter_rules.Memory.{marks_memory}
use Rattle.filter_settings.specs.Architectures.{is_second, is_read, value_notes, unit_refuses_second, unit_architectures_notes}
use Rattle.filter_settings.specs.Namespaces.{namespaces_notes, namespaces_of, unit_namespaces, unit_namespaces_notes}
use Rattle.filter_settings.specs.Settings.{filter_notes, list_notes, protection_notes as flag_protection_notes, restriction_notes}
use Rattle.filter_settings.specs.Settings.{settings_of}
use Rattle.cred_settings.specs.Ambient.{ambient_of}
use Rattle.cred_settings.specs.Bounding.{bounding_of}
use Rattle.cred_settings.specs.CapLists.{caps_read, names_notes, unit_caps, unit_caps_notes}
use Rattle.cred_settings.specs.FurtherGroups.{further_words}
use Rattle.cred_settings.specs.Groups.{group_word}
use Rattle.cred_settings.specs.Identities.{identity_from, identity_notes, identity_of}
use Rattle.cred_settings.specs.NewPrivileges.{is_in_effect_in, is_keeping}
use Rattle.cred_settings.specs.Users.{user_word}
use Rattle.mount_settings.specs.Assigned.{assigned_by, dialect_of}
use Rattle.mount_settings.specs.Notes.{notes_by, written_notes}
use Rattle.mount_settings.specs.Protections.{protection_notes}
use Rattle.mount_settings.specs.Roots.{mentions_root}
use Rattle.mount_settings.specs.Settings.{all_mentions}
use Rattle.mount_settings.specs.Written.{unit_written, written}
use Rattle.exec_settings.specs.declared.commands.Command.{Command}
use Rattle.exec_settings.specs.declared.keys.Meaning.{Meaning}
use Rattle.exec_settings.specs.declared.keys.Meaning.TheVariants as means
use Rattle.exec_settings.specs.declared.errors.SettingsError.TheVariants.{MissingGroup, OutsideProfile, TooManyPaths}
use Rattle.exec_settings.specs.declared.service.Settings.{Settings}
use Rattle.exec_settings.specs.AreSettings.{AreFilters, AreSettings}
use Rattle.exec_settings.specs.Bounding.{left_of}
use Rattle.exec_settings.specs.Launched.{command_notes, launched_of, reading_of, unexpanded_by, unit_command, unit_command_notes}
use Rattle.exec_settings.specs.Launched.{unit_leaves_ids, values_by}
use Rattle.exec_settings.specs.Search.{folders_of, has_exe, is_relative, looked_up, path_in, path_of}
use Rattle.mount_settings.specs.unit_names.declared.version.Version.{Version}
use Rattle.exec_settings.specs.declared.commands.Program.{Program}
use Rattle.exec_settings.specs.declared.commands.Program.TheVariants.{Absolute, Relative, Named}
use Rattle.exec_settings.specs.Dynamic.{dynamic_notes, is_dynamic, sets_new_privileges, unit_filters, with_dynamic_user}
use Rattle.exec_settings.specs.Groups.{missing_group}
use Rattle.exec_settings.specs.Judged.{unjudged_at, unjudged_notes}
use Rattle.exec_settings.specs.Keys.{keys}
use Rattle.exec_settings.specs.Mounts.{paths_refusal, unit_mentions, unit_switches}
use Rattle.exec_settings.specs.Notes.{all_notes, credential_notes, grammar_notes, grammar_notes_in, text_notes}
use Rattle.exec_settings.specs.Order.{AreInOrder}
use Rattle.exec_settings.specs.Profile.{asked_by, is_asked, is_outside, is_outside_by, outside_key}
use Rattle.exec_settings.specs.Refusals.{command_refusal, first_reason, group_refusal, identity_reason, identity_refusal, no_command}
use Rattle.exec_settings.specs.Refusals.{outside, privileged, refusal_of}
use Rattle.exec_settings.specs.RunsAs.{unit_identity}
use Rattle.exec_settings.specs.Sections.{SameWithoutOthers}
use Rattle.exec_settings.specs.Filtered.{counts_as_filter, has_filter, has_value}
use Rattle.exec_settings.specs.Settings.{ambient_within, keeps_by, new_privileges_by, program_path, unit_ambient, unit_bounding, unit_keeps, unit_new_privileges, unit_program}
use Rattle.mount_settings.proofs.SameUnits.{SameValues, each_of, mount_keys, noted_keys, same_mentions, same_protection_notes}
use Rattle.filter_settings.specs.Domains.{domain_named, unit_domain}
use Rattle.filter_settings.specs.declared.filter_rules.personality.Domain.TheVariants.{Linux}
use Rattle.exec_settings.proofs.FilterSame.{same_settings}

same_grammar : (number : ℕ) (files : List UnitFile) →
    flat_map (λ place. grammar_notes_in place.0 place.1) (enumerate_from number (map without_others files))
    ≡ flat_map (λ place. grammar_notes_in place.0 place.1) (enumerate_from number files)
same_grammar number [] = refl
same_grammar number (file ∷ files) = ap (λ notes. grammar_notes_in number file ++ notes) (same_grammar (number + 1) files)

find_agree : {X : Type 0} (p q : X → Bool) → ((x : X) → p x ≡ q x) → (xs : List X) → find p xs ≡ find q xs
find_agree p q h [] = refl
find_agree p q h (x ∷ xs) = ap (λ b. cond b (Some x) (find p xs)) (h x) ∙ ap (λ found. cond (q x) (Some x) found) (find_agree p q h xs)

both : {X : Type 0} (a b c d : List X) → a ≡ b → c ≡ d → (a ++ c) ≡ (b ++ d)
both a b c d e f = cc

four : {X : Type 0} (a a' b b' c c' d d' : List X) → a ≡ a' → b ≡ b' → c ≡ c' → d ≡ d' → ((a ++ b) ++ c) ++ d ≡ ((a' ++ b') ++ c') ++ d'
four a a' b b' c c' d d' e f g h = cc

five : {X : Type 0} (a a' b b' c c' d d' i i' : List X) → a ≡ a' → b ≡ b' → c ≡ c' → d ≡ d' → i ≡ i'
    → (((a ++ b) ++ c) ++ d) ++ i ≡ (((a' ++ b') ++ c') ++ d') ++ i'
five a a' b b' c c' d d' i i' e f g h k = cc

onward : {X : Type 0} (a a' b b' c c' d d' i i' : List X) → a ≡ a' → b ≡ b' → c ≡ c' → d ≡ d' → i ≡ i'
    → a ++ (b ++ (c ++ (d ++ i))) ≡ a' ++ (b' ++ (c' ++ (d' ++ i')))
onward a a' b b' c c' d d' i i' e f g h k = cc

module _ (unit : Resolved) where
  abbrev alone : Resolved
  alone = service_alone unit

  last : {X : Type 0} (read : List ℕ → Option X) (default : X) (key : List ℕ)
      → unit_last read default alone key ≡ unit_last read default unit key
  unfolding unit_last
  last read default key = ap (last_read read default) (same_values unit key)

  last_notes : {X : Type 0} (read : List ℕ → Option X) (key : List ℕ) → unit_last_notes read alone key ≡ unit_last_notes read unit key
  unfolding unit_last_notes
  last_notes read key = both _ _ _ _ (same_notes unit key) (ap (unread_notes read) (same_values unit key))

  flag : (key : List ℕ) → unit_flag alone key ≡ unit_flag unit key
  flag key = last flag_value false key

  flag_notes : (key : List ℕ) → unit_flag_notes alone key ≡ unit_flag_notes unit key
  flag_notes key = last_notes flag_value key

  lines : (key : List ℕ) → unit_listed alone key ≡ unit_listed unit key
  unfolding unit_listed
  lines key = ap (filter_map listed) (same_values unit key)

  lines_notes : (key : List ℕ) → unit_listed_notes alone key ≡ unit_listed_notes unit key
  unfolding unit_listed_notes
  lines_notes key = both _ _ _ _ (same_notes unit key) (ap (unread_notes listed_line) (same_values unit key))

  words : (key : List ℕ) → unit_words alone key ≡ unit_words unit key
  unfolding unit_words
  words key = ap words_in (same_values unit key)

  words_notes : (key : List ℕ) → unit_words_notes alone key ≡ unit_words_notes unit key
  unfolding unit_words_notes
  words_notes key = both _ _ _ _ (same_notes unit key) (ap (unread_notes split) (same_values unit key))

  text : (key : List ℕ) → unit_last_text alone key ≡ unit_last_text unit key
  unfolding unit_last_text
  text key = ap last_text (same_values unit key)

  -- filters
  calls : (table : Table) (key : List ℕ) → unit_call_list alone table key ≡ unit_call_list unit table key
  unfolding unit_call_list
  calls table key = ap (λ all. call_list unit.systemd table (in_force all)) (lines key)

  calls_notes : (table : Table) (key : List ℕ) → unit_call_list_notes alone table key ≡ unit_call_list_notes unit table key
  unfolding unit_call_list_notes
  calls_notes table key = both _ _ _ _ (lines_notes key) (ap (call_notes unit.systemd table) (lines key))

  families : (table : Table) (key : List ℕ) → unit_family_list alone table key ≡ unit_family_list unit table key
  unfolding unit_family_list
  families table key = ap (λ all. family_list unit.systemd table (in_force all)) (lines key)

  families_notes : (table : Table) (key : List ℕ) → unit_family_list_notes alone table key ≡ unit_family_list_notes unit table key
  unfolding unit_family_list_notes
  families_notes table key = both _ _ _ _ (lines_notes key) (ap (family_notes unit.systemd table) (lines key))

  types : (key : List ℕ) → unit_namespaces alone key ≡ unit_namespaces unit key
  unfolding unit_namespaces
  types key = ap (namespaces_of unit.systemd) (lines key)

  types_notes : (key : List ℕ) → unit_namespaces_notes alone key ≡ unit_namespaces_notes unit key
  unfolding unit_namespaces_notes
  types_notes key = both _ _ _ _ (lines_notes key) (ap (namespaces_notes unit.systemd) (lines key))

  unpermitted : (table : Table) (key : List ℕ) → unit_refuses_second alone table key ≡ unit_refuses_second unit table key
  unfolding unit_refuses_second
  unpermitted table key =
      ap (λ (values : List Value). is_some table.second &&
      (list_any is_read (in_force_values values) && not (list_any (is_second table) (unit_words alone key)))) (same_values unit key)
      ∙ ap (λ ws. is_some table.second &&
      (list_any is_read (in_force_values (values_of unit key)) && not (list_any (is_second table) ws))) (words key)

  unpermitted_notes : (table : Table) (key : List ℕ) → unit_architectures_notes alone table key ≡ unit_architectures_notes unit table key
  unfolding unit_architectures_notes
  unpermitted_notes table key = both _ _ _ _ (words_notes key) (ap (flat_map (value_notes table)) (same_values unit key))

  settings_same : (table : Table) → settings_of alone table ≡ settings_of unit table
  settings_same table =
      same_settings _ (unit_call_list unit table (codes "SystemCallFilter")) _ (unit_error_action unit (codes "SystemCallErrorNumber")) _
      (unit_family_list unit table (codes "RestrictAddressFamilies")) _ (unit_namespaces unit (codes "RestrictNamespaces"))
      _ unit.systemd _ (unit_flag unit (codes "MemoryDenyWriteExecute")) _ (unit_flag unit (codes "RestrictRealtime")) _
      (unit_flag unit (codes "RestrictSUIDSGID")) _ (unit_flag unit (codes "LockPersonality"))
      _ (unit_flag unit (codes "ProtectHostname")) _ (unit_flag unit (codes "ProtectKernelModules")) _
      (unit_flag unit (codes "ProtectKernelLogs")) _ (unit_flag unit (codes "ProtectClock")) _
      (unit_flag unit (codes "PrivateDevices")) _ (unit_refuses_second unit table (codes "SystemCallArchitectures"))
      _ (unit_flag unit (codes "ProtectKernelTunables")) _ (unit_domain unit table (codes "Personality")) (calls table (codes "SystemCallFilter"))
      (ap (λ value. value.action) (last error_action_value default_action (codes "SystemCallErrorNumber")))
      (families table (codes "RestrictAddressFamilies")) (types (codes "RestrictNamespaces"))
      refl (flag (codes "MemoryDenyWriteExecute")) (flag (codes "RestrictRealtime")) (flag (codes "RestrictSUIDSGID"))
      (flag (codes "LockPersonality"))
      (flag (codes "ProtectHostname")) (flag (codes "ProtectKernelModules")) (flag (codes "ProtectKernelLogs"))
      (flag (codes "ProtectClock")) (flag (codes "PrivateDevices")) (unpermitted table (codes "SystemCallArchitectures"))
      (flag (codes "ProtectKernelTunables")) (last (domain_named table) Linux (codes "Personality"))

  dynamic : is_dynamic alone ≡ is_dynamic unit
  unfolding is_dynamic
  dynamic = flag (codes "DynamicUser")

  filters : (table : Table) → unit_filters alone table ≡ unit_filters unit table
  unfolding unit_filters
  filters table = ap (λ on. with_dynamic_user on (settings_of alone table)) dynamic
      ∙ ap (with_dynamic_user (is_dynamic unit)) (settings_same table)

  restrictions_noted : restriction_notes alone ≡ restriction_notes unit
  unfolding restriction_notes
  restrictions_noted =
      four _ _ _ _ _ _ _ _ (flag_notes (codes "MemoryDenyWriteExecute")) (flag_notes (codes "RestrictRealtime"))
      (flag_notes (codes "RestrictSUIDSGID")) (flag_notes (codes "LockPersonality"))

  flags_noted : flag_protection_notes alone ≡ flag_protection_notes unit
  unfolding flag_protection_notes
  flags_noted =
      five _ _ _ _ _ _ _ _ _ _ (flag_notes (codes "ProtectHostname")) (flag_notes (codes "ProtectKernelModules"))
      (flag_notes (codes "ProtectKernelLogs")) (flag_notes (codes "ProtectClock")) (flag_notes (codes "PrivateDevices"))

  lists_noted : (table : Table) → list_notes alone table ≡ list_notes unit table
  unfolding list_notes
  lists_noted table =
      five _ _ _ _ _ _ _ _ _ _ (last_notes error_action_value (codes "SystemCallErrorNumber")) (types_notes (codes "RestrictNamespaces"))
      (families_notes table (codes "RestrictAddressFamilies")) (calls_notes table (codes "SystemCallFilter"))
      (unpermitted_notes table (codes "SystemCallArchitectures"))

  filters_noted : (table : Table) → filter_notes alone table ≡ filter_notes unit table
  unfolding filter_notes
  filters_noted table = both _ _ _ _ (both _ _ _ _ restrictions_noted flags_noted) (lists_noted table)

  -- users, groups and capabilities
  identity : (site : Site) (on leaves : Bool) → identity_of alone site on leaves ≡ identity_of unit site on leaves
  unfolding identity_of
  identity site on leaves =
      ap (λ word. identity_from unit.systemd site on leaves word (group_word alone) (further_words alone)) (text (codes "User"))
      ∙ ap (λ word. identity_from unit.systemd site on leaves (user_word unit) word (further_words alone)) (text (codes "Group"))
      ∙ ap (identity_from unit.systemd site on leaves (user_word unit) (group_word unit)) (words (codes "SupplementaryGroups"))

  caps : (key : List ℕ) (default : Option ℕ) → unit_caps alone key default ≡ unit_caps unit key default
  unfolding unit_caps
  caps key default = ap (caps_read unit.systemd default) (lines key)

  caps_notes : (key : List ℕ) → unit_caps_notes alone key ≡ unit_caps_notes unit key
  unfolding unit_caps_notes
  caps_notes key = both _ _ _ _ (lines_notes key) (ap (flat_map names_notes) (lines key))

  bounding : (table : Table) → unit_bounding alone table ≡ unit_bounding unit table
  bounding table = ap (λ set. left_of set (unit_filters alone table)) (caps (codes "CapabilityBoundingSet") _)
      ∙ ap (left_of (bounding_of unit)) (filters table)

  ambient_key : ambient_of alone ≡ ambient_of unit
  ambient_key = caps (codes "AmbientCapabilities") _

  ambient : (table : Table) → unit_ambient alone table ≡ unit_ambient unit table
  ambient table = ap (λ set. ambient_within unit.systemd set (unit_bounding alone table)) ambient_key
      ∙ ap (ambient_within unit.systemd (ambient_of unit)) (bounding table)

  valued : (key : List ℕ) → has_value alone key ≡ has_value unit key
  valued key = ap (λ (values : List Value). not (length (in_force_values values) == 0)) (same_values unit key)

  counted : counts_as_filter alone ≡ counts_as_filter unit
  unfolding counts_as_filter
  counted =
      ap (λ on. on || (has_value alone (codes "SystemCallArchitectures") || has_value alone (codes "SystemCallLog")))
      (flag (codes "ProtectKernelTunables"))
      ∙ ap (λ on. unit_flag unit (codes "ProtectKernelTunables") || (on || has_value alone (codes "SystemCallLog")))
      (valued (codes "SystemCallArchitectures"))
      ∙ ap (λ on. unit_flag unit (codes "ProtectKernelTunables") || (has_value unit (codes "SystemCallArchitectures") || on))
      (valued (codes "SystemCallLog"))

  sets : sets_new_privileges alone ≡ sets_new_privileges unit
  sets = ap (λ on. on || is_dynamic alone) (flag (codes "NoNewPrivileges"))
      ∙ ap (λ on. unit_flag unit (codes "NoNewPrivileges") || on) dynamic

  -- the same, by whether a setting counts as a filter
  abbrev by_count : Table → ℕ → Bool → Bool
  by_count table uid counts =
      is_keeping unit.systemd (has_filter (unit_filters unit table) table || (marks_memory (unit_filters unit table) || counts)) uid
      (may_give_up table (unit_filters unit table).calls)

  restricted : (table : Table) (uid : ℕ) (is_set : Bool) (set : ℕ)
      → new_privileges_by alone is_set (unit_filters unit table) table uid set
      ≡ new_privileges_by unit is_set (unit_filters unit table) table uid set
  restricted table uid is_set set =
      ap (λ counts. is_in_effect_in unit.systemd is_set (has_filter (unit_filters unit table) table)
      (has_filter (unit_filters unit table) table || (marks_memory (unit_filters unit table) || counts)) uid set (by_count table uid counts))
      counted

  keeps_same : (table : Table) (uid : ℕ) → unit_keeps alone table uid ≡ unit_keeps unit table uid
  keeps_same table uid = ap (λ settings. keeps_by alone settings table uid) (filters table) ∙ ap (by_count table uid) counted

  new_privileges : (table : Table) (uid : ℕ) → unit_new_privileges alone table uid ≡ unit_new_privileges unit table uid
  new_privileges table uid =
      ap (λ on. new_privileges_by alone on (unit_filters alone table) table uid (unit_ambient alone table)) sets
      ∙ ap (λ settings. new_privileges_by alone (sets_new_privileges unit) settings table uid (unit_ambient alone table)) (filters table)
      ∙ restricted table uid (sets_new_privileges unit) (unit_ambient alone table)
      ∙ ap (new_privileges_by unit (sets_new_privileges unit) (unit_filters unit table) table uid) (ambient table)

  identity_noted : identity_notes alone ≡ identity_notes unit
  unfolding identity_notes
  identity_noted = both _ _ _ _ (both _ _ _ _ (same_notes unit (codes "User")) (same_notes unit (codes "Group")))
      (words_notes (codes "SupplementaryGroups"))

  credentials_noted : credential_notes alone ≡ credential_notes unit
  unfolding credential_notes dynamic_notes
  credentials_noted =
      onward _ _ _ _ _ _ _ _ _ _ (flag_notes (codes "DynamicUser")) (caps_notes (codes "CapabilityBoundingSet"))
      (caps_notes (codes "AmbientCapabilities")) (flag_notes (codes "NoNewPrivileges")) identity_noted

  -- paths
  paths : unit_written alone ≡ unit_written unit
  unfolding unit_written
  paths = ap (λ assignments. written (dialect_of unit.systemd) (filter_map (assigned_by unit.systemd unit.name) assignments)) (same_assignments unit)

  paths_noted : written_notes alone ≡ written_notes unit
  unfolding written_notes
  paths_noted = ap (flat_map (notes_by unit.systemd unit.name)) (same_assignments unit)

  switches : unit_switches alone ≡ unit_switches unit
  unfolding unit_switches
  switches =
      let a = flag (codes "PrivateDevices") in
      let b = flag (codes "ProtectKernelModules") in
      let c = flag (codes "ProtectKernelLogs") in
      let d = dynamic in
      cc

  same_mounts : SameValues unit alone
  same_mounts = each_of (λ key. values_of alone key ≡ values_of unit key) (λ key. same_values unit key) mount_keys

  protections_noted : protection_notes alone ≡ protection_notes unit
  protections_noted =
      same_protection_notes unit alone refl same_mounts
      (each_of (λ key. notes_of alone key ≡ notes_of unit key) (λ key. same_notes unit key) noted_keys)

  mentions : (site : Site) → unit_mentions alone site ≡ unit_mentions unit site
  unfolding unit_mentions
  mentions site =
      ap (λ on. all_mentions alone site on (unit_written alone)) switches
      ∙ ap (all_mentions alone site (unit_switches unit)) paths
      ∙ same_mentions unit alone refl same_mounts site (unit_switches unit) (unit_written unit)

  -- the command
  values_same : (systemd : Option Version) → values_by systemd alone ≡ values_by systemd unit
  values_same None = same_values unit (codes "ExecStart")
  values_same (Some version) = same_written unit (codes "ExecStart")

  command : unit_command alone ≡ unit_command unit
  unfolding unit_command reading_of
  command = ap (launched_of unit) (values_same unit.systemd)

  leaves_same : unit_leaves_ids alone ≡ unit_leaves_ids unit
  unfolding unit_leaves_ids
  leaves_same = ap (λ one. option_map_or (λ (launched : Command). launched.leaves_ids) one false) command

  runs_as : (site : Site) → unit_identity alone site ≡ unit_identity unit site
  runs_as site =
      ap (λ on. identity_of alone site on (unit_leaves_ids alone)) dynamic
      ∙ ap (λ leaves. identity_of alone site (is_dynamic unit) leaves) leaves_same
      ∙ identity site (is_dynamic unit) (unit_leaves_ids unit)

  unexpanded_same : (systemd : Option Version) → unexpanded_by systemd alone ≡ unexpanded_by systemd unit
  unexpanded_same None = same_notes unit (codes "ExecStart")
  unexpanded_same (Some version) = refl

  commands_noted : unit_command_notes alone ≡ unit_command_notes unit
  unfolding unit_command_notes reading_of
  commands_noted = both _ _ _ _ (unexpanded_same unit.systemd) (ap (command_notes unit) (values_same unit.systemd))

  -- the path of its program
  path_same : (site : Site) (one : Program) → path_of alone site one ≡ path_of unit site one
  unfolding looked_up
  path_same site (Absolute path) = refl
  path_same site Relative = refl
  path_same site (Named name) =
      ap (λ values. find (has_exe site) (filter_map (path_in name)
      (cond (not (length (in_force_values values) == 0)) [] (folders_of unit.systemd)))) (same_written unit (codes "ExecSearchPath"))

  paths_same : (site : Site) (one : Option Command) → program_path alone site one ≡ program_path unit site one
  paths_same site None = refl
  paths_same site (Some launched) = path_same site launched.program

  program : (site : Site) → unit_program alone site ≡ unit_program unit site
  unfolding unit_program
  program site = ap (program_path alone site) command ∙ paths_same site (unit_command unit)

  asked : (key : List ℕ) → is_asked alone key ≡ is_asked unit key
  asked key = ap (λ assignments. unwrap_or (last_of (filter_map (λ one. asked_by key one.1) assignments)) false) (same_assignments unit)

  outside_same : (relative : Bool) (row : List ℕ × Meaning) → is_outside alone relative row ≡ is_outside unit relative row
  outside_same relative row = by row.1
    where
      by : (meaning : Meaning) → is_outside_by alone relative row.0 meaning ≡ is_outside_by unit relative row.0 meaning
      by (means.Place key) = ap (λ all. mentions_root all key) paths
      by means.Command = refl
      by means.Refused = asked row.0
      by means.Credentials = refl
      by means.Filter = refl
      by means.Protection = refl
      by means.Path = refl

  outside_key_same : (relative : Bool) → outside_key alone relative ≡ outside_key unit relative
  unfolding outside_key
  outside_key_same relative = ap (option_map (λ row. row.0))
      (find_agree (is_outside alone relative) (is_outside unit relative) (outside_same relative) (keys unit.systemd))

  outside_for : (site : Site) (launched : Option Command) → outside alone site launched ≡ outside unit site launched
  outside_for site None = refl
  outside_for site (Some launched) =
      ap (option_map OutsideProfile)
      (outside_key_same (is_relative alone site launched.program)
      ∙ ap (λ path. outside_key unit (not (is_some path))) (path_same site launched.program))

  -- the reason of its refusal
  command_refused : (site : Site) → command_refusal alone site ≡ command_refusal unit site
  unfolding command_refusal
  command_refused site =
      ap (λ launched. first_reason (no_command launched ∷ privileged launched ∷ outside alone site launched ∷ [])) command
      ∙ ap (λ reason. first_reason (no_command (unit_command unit) ∷ privileged (unit_command unit) ∷ reason ∷ []))
      (outside_for site (unit_command unit))

  identity_refused : (site : Site) → identity_refusal alone site ≡ identity_refusal unit site
  unfolding identity_refusal
  identity_refused site = ap identity_reason (runs_as site)

  group_refused : (table : Table) → group_refusal alone table ≡ group_refusal unit table
  unfolding group_refusal
  group_refused table = ap (λ settings. option_map MissingGroup (missing_group table settings)) (filters table)

  paths_refused : paths_refusal alone ≡ paths_refusal unit
  unfolding paths_refusal
  paths_refused = ap (λ all. cond (nat_lt 128 (length all)) (Some TooManyPaths) None) paths

  refused : (table : Table) (site : Site) → refusal_of alone table site ≡ refusal_of unit table site
  unfolding refusal_of
  refused table site =
      ap (λ reason. first_reason (reason ∷ identity_refusal alone site ∷ group_refusal alone table ∷ paths_refusal alone ∷ []))
      (command_refused site)
      ∙ ap (λ reason. first_reason (command_refusal unit site ∷ reason ∷ group_refusal alone table ∷ paths_refusal alone ∷ []))
      (identity_refused site)
      ∙ ap (λ reason. first_reason (command_refusal unit site ∷ identity_refusal unit site ∷ reason ∷ paths_refusal alone ∷ []))
      (group_refused table)
      ∙ ap (λ reason. first_reason (command_refusal unit site ∷ identity_refusal unit site ∷ group_refusal unit table ∷ reason ∷ []))
      paths_refused

  -- the notes
  text_noted : text_notes alone ≡ text_notes unit
  unfolding text_notes grammar_notes unjudged_notes
  text_noted = both _ _ _ _ (same_grammar 0 unit.files) (ap (filter_map (unjudged_at unit.systemd)) (same_assignments unit))

  noted : (table : Table) → all_notes alone table ≡ all_notes unit table
  unfolding all_notes
  noted table = both _ _ _ _ (five _ _ _ _ _ _ _ _ _ _ text_noted paths_noted commands_noted credentials_noted (filters_noted table))
      protections_noted

  -- the settings
  of_whole : (table : Table) (site : Site) (made : Settings) → AreSettings alone table site made → AreSettings unit table site made
  of_whole table site made are = record {
    launches_the_first_command = sym (program site) ∙ are.launches_the_first_command;
    runs_as = sym (runs_as site) ∙ are.runs_as;
    bounding_without_what_is_taken = are.bounding_without_what_is_taken ∙ bounding table;
    ambient = are.ambient ∙ ambient table;
    keeps_for_the_filters = are.keeps_for_the_filters ∙ keeps_same table made.uid;
    new_privileges = are.new_privileges ∙ new_privileges table made.uid;
    refuses_memory = are.refuses_memory ∙ ap marks_memory (filters table);
    filters_as_wanted = subst (λ settings. AreFilters settings table made.filters.items) (filters table) are.filters_as_wanted;
    mentions_written_and_implied = are.mentions_written_and_implied ∙ mentions site;
    leaves_the_root = are.leaves_the_root;
    paths_are_short = are.paths_are_short;
    all_notes_in_order = subst (λ notes. AreInOrder notes made.notes.items) (noted table) are.all_notes_in_order;
  }

  of_alone : (table : Table) (site : Site) (made : Settings) → AreSettings unit table site made → AreSettings alone table site made
  of_alone table site made are = record {
    launches_the_first_command = program site ∙ are.launches_the_first_command;
    runs_as = runs_as site ∙ are.runs_as;
    bounding_without_what_is_taken = are.bounding_without_what_is_taken ∙ sym (bounding table);
    ambient = are.ambient ∙ sym (ambient table);
    keeps_for_the_filters = are.keeps_for_the_filters ∙ sym (keeps_same table made.uid);
    new_privileges = are.new_privileges ∙ sym (new_privileges table made.uid);
    refuses_memory = are.refuses_memory ∙ sym (ap marks_memory (filters table));
    filters_as_wanted = subst (λ settings. AreFilters settings table made.filters.items) (sym (filters table)) are.filters_as_wanted;
    mentions_written_and_implied = are.mentions_written_and_implied ∙ sym (mentions site);
    leaves_the_root = are.leaves_the_root;
    paths_are_short = are.paths_are_short;
    all_notes_in_order = subst (λ notes. AreInOrder notes made.notes.items) (sym (noted table)) are.all_notes_in_order;
  }

  pub others_change_nothing : (table : Table) (site : Site) → SameWithoutOthers unit table site
  others_change_nothing table site = record {
    refused = refused table site;
    settles = λ made. (of_whole table site made, of_alone table site made);
  }
