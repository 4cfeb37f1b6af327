-- What is said by a unit to which a drop-in adds nothing but SystemCallFilter=.
use Rattle.std.proofs.Common.{◌≡◌, ℕ, Bool, true, false, cond, Option, Some, None, List, [], ◌∷◌, codes, refl, ap, ◌∙◌}
use Rattle.std.specs.Prelude.{◌||◌, ◌&&◌, ◌==◌, not, is_some, length, nat_lt, find}
use Rattle.std.specs.Option.{option_map, option_map_or}
use Rattle.std.specs.List.{filter_map, list_all, list_any}
use Rattle.std.specs.Str.{bytes_eq}
use Rattle.std.proofs.lemmas.Bool.{and_parts}
use Rattle.asked_service.specs.call_table.Table.{Table}
use Rattle.asked_service.specs.cap_sets.Sets.{minus}
use Rattle.asked_service.specs.cred_settings.Ambient.{ambient_of}
use Rattle.asked_service.specs.cred_settings.Bounding.{bounding_of}
use Rattle.asked_service.specs.cred_settings.CapLists.{caps_read, unit_caps}
use Rattle.asked_service.specs.cred_settings.FurtherGroups.{further_words}
use Rattle.asked_service.specs.cred_settings.Groups.{group_word}
use Rattle.asked_service.specs.cred_settings.Identities.{identity_from, identity_of}
use Rattle.asked_service.specs.cred_settings.Users.{user_word}
use Rattle.asked_service.specs.dropin_merge.declared.resolved.Resolved.{Resolved}
use Rattle.asked_service.specs.dropin_merge.declared.resolved.UnitFile.{UnitFile}
use Rattle.asked_service.specs.exec_settings.Bounding.{left_of, taken_caps}
use Rattle.asked_service.specs.exec_settings.Launched.{launched_of, reading_of, unit_command, unit_leaves_ids, values_by}
use Rattle.asked_service.specs.exec_settings.Search.{folders_of, has_exe, is_relative, looked_up, path_in, path_of}
use Rattle.asked_service.specs.exec_settings.Dynamic.{is_dynamic, sets_new_privileges, unit_filters, with_dynamic_user}
use Rattle.asked_service.specs.exec_settings.RunsAs.{unit_identity}
use Rattle.asked_service.specs.exec_settings.Keys.{keys}
use Rattle.asked_service.specs.exec_settings.Mounts.{paths_refusal, unit_mentions, unit_switches}
use Rattle.asked_service.specs.exec_settings.Profile.{is_asked, is_outside, is_outside_by, outside_key}
use Rattle.asked_service.specs.exec_settings.Refusals.{command_refusal, first_reason, group_refusal, identity_reason, identity_refusal}
use Rattle.asked_service.specs.exec_settings.Refusals.{no_command, outside, privileged, refusal_of}
use Rattle.asked_service.specs.exec_settings.Filtered.{counts_as_filter, has_value}
use Rattle.asked_service.specs.exec_settings.Settings.{ambient_within, program_path, unit_ambient, unit_bounding, unit_program}
use Rattle.asked_service.specs.exec_settings.declared.commands.Command.{Command}
use Rattle.asked_service.specs.exec_settings.declared.commands.Program.{Program}
use Rattle.asked_service.specs.exec_settings.declared.commands.Program.TheVariants.{Absolute, Relative, Named}
use Rattle.asked_service.specs.exec_settings.declared.errors.SettingsError.TheVariants.{OutsideProfile, TooManyPaths}
use Rattle.asked_service.specs.exec_settings.declared.keys.Meaning.{Meaning}
use Rattle.asked_service.specs.exec_settings.declared.keys.Meaning.TheVariants as means
use Rattle.asked_service.proofs.OfExecSettings.FilterSame.{same_settings}
use Rattle.asked_service.proofs.OfExecSettings.SameUnits.{SameValues, each_but, mount_keys, same_mentions}
use Rattle.asked_service.specs.filter_settings.declared.filter_rules.mentions.CallList.{CallList}
use Rattle.asked_service.specs.filter_settings.declared.filter_rules.settings.FilterSettings.{FilterSettings}
use Rattle.asked_service.specs.filter_settings.Architectures.{is_read, is_second, unit_refuses_second}
use Rattle.asked_service.specs.filter_settings.CallLists.{unit_call_list}
use Rattle.asked_service.specs.filter_settings.ErrorActions.{default_action, error_action_value, unit_error_action}
use Rattle.asked_service.specs.filter_settings.Domains.{domain_named, unit_domain}
use Rattle.asked_service.specs.filter_settings.FamilyLists.{family_list, unit_family_list}
use Rattle.asked_service.specs.filter_settings.declared.filter_rules.personality.Domain.TheVariants.{Linux}
use Rattle.asked_service.specs.filter_settings.Lines.{in_force}
use Rattle.asked_service.specs.filter_settings.Namespaces.{namespaces_of, unit_namespaces}
use Rattle.asked_service.specs.filter_settings.Settings.{settings_of}
use Rattle.asked_service.specs.mount_settings.Assigned.{assigned_by, dialect_of}
use Rattle.asked_service.specs.mount_settings.Roots.{mentions_root}
use Rattle.asked_service.specs.mount_settings.Settings.{all_mentions}
use Rattle.asked_service.specs.mount_settings.Written.{unit_written, written}
use Rattle.asked_service.specs.site_table.Table.{Site}
use Rattle.asked_service.specs.unit_names.declared.version.Version.{Version}
use Rattle.asked_service.specs.dropin_merge.unit_values.Assignments.{service_assignments}
use Rattle.asked_service.specs.dropin_merge.unit_values.Flags.{flag_value, unit_flag}
use Rattle.asked_service.specs.dropin_merge.unit_values.Lasting.{last_read, last_text, unit_last, unit_last_text}
use Rattle.asked_service.specs.dropin_merge.unit_values.Listed.{listed, unit_listed}
use Rattle.asked_service.specs.dropin_merge.unit_values.Values.{in_force as in_force_values, values_of, written_values}
use Rattle.asked_service.specs.dropin_merge.unit_values.Words.{unit_words, words_in}
use Rattle.asked_service.specs.dropin_merge.declared.unit_values.value.Value.{Value}

-- the settings with another list of calls
abbrev pub with_calls : FilterSettings → Option CallList → FilterSettings
with_calls settings calls = record settings { calls = calls }

abbrev pub is_other : List ℕ → Type 0
is_other key = bytes_eq (codes "SystemCallFilter") key ≡ false

-- a key that may refuse the unit is another one
is_safe_by : List ℕ → Meaning → Bool
is_safe_by key (means.Place name) = true
is_safe_by key means.Command = true
is_safe_by key means.Refused = not (bytes_eq (codes "SystemCallFilter") key)
is_safe_by key means.Credentials = true
is_safe_by key means.Filter = true
is_safe_by key means.Protection = true
is_safe_by key means.Path = true

all_safe : (systemd : Option Version) → list_all (λ (row : List ℕ × Meaning). is_safe_by row.0 row.1) (keys systemd) ≡ true
unfolding keys is_safe_by
all_safe None = refl
all_safe (Some version) = refl

find_agree : {X : Type 0} (safe p q : X → Bool) → ((x : X) → safe x ≡ true → p x ≡ q x) → (xs : List X) → list_all safe xs ≡ true
    → find p xs ≡ find q xs
find_agree safe p q h [] all = refl
find_agree safe p q h (x ∷ xs) all =
    let both = and_parts (safe x) (list_all safe xs) all in
    ap (λ b. cond b (Some x) (find p xs)) (h x both.0) ∙ ap (λ found. cond (q x) (Some x) found) (find_agree safe p q h xs both.1)

unset : (b : Bool) → not b ≡ true → b ≡ false
unset true e = cc
unset false e = refl

module _ (unit : Resolved) (files : List UnitFile) where
  abbrev longer : Resolved
  longer = record unit { files = files }

  -- it adds to no other key
  pub record AddsCallsAlone : Type 0 where
    pub values : (key : List ℕ) → is_other key → values_of longer key ≡ values_of unit key
    pub written : (key : List ℕ) → is_other key → written_values longer key ≡ written_values unit key
    pub paths : filter_map (assigned_by unit.systemd unit.name) (service_assignments longer)
        ≡ filter_map (assigned_by unit.systemd unit.name) (service_assignments unit)
    pub asked : (key : List ℕ) → is_other key → is_asked longer key ≡ is_asked unit key

  module _ (adds : AddsCallsAlone) where
    last : {X : Type 0} (read : List ℕ → Option X) (default : X) (key : List ℕ) → is_other key
        → unit_last read default longer key ≡ unit_last read default unit key
    unfolding unit_last
    last read default key other = ap (last_read read default) (adds.values key other)

    flag : (key : List ℕ) → is_other key → unit_flag longer key ≡ unit_flag unit key
    flag key other = last flag_value false key other

    lines : (key : List ℕ) → is_other key → unit_listed longer key ≡ unit_listed unit key
    unfolding unit_listed
    lines key other = ap (filter_map listed) (adds.values key other)

    words : (key : List ℕ) → is_other key → unit_words longer key ≡ unit_words unit key
    unfolding unit_words
    words key other = ap words_in (adds.values key other)

    text : (key : List ℕ) → is_other key → unit_last_text longer key ≡ unit_last_text unit key
    unfolding unit_last_text
    text key other = ap last_text (adds.values key other)

    -- filters
    families : (table : Table) (key : List ℕ) → is_other key → unit_family_list longer table key ≡ unit_family_list unit table key
    unfolding unit_family_list
    families table key other = ap (λ all. family_list unit.systemd table (in_force all)) (lines key other)

    types : (key : List ℕ) → is_other key → unit_namespaces longer key ≡ unit_namespaces unit key
    unfolding unit_namespaces
    types key other = ap (namespaces_of unit.systemd) (lines key other)

    unpermitted : (table : Table) (key : List ℕ) → is_other key → unit_refuses_second longer table key ≡ unit_refuses_second unit table key
    unfolding unit_refuses_second
    unpermitted table key other =
        ap (λ (values : List Value). is_some table.second &&
        (list_any is_read (in_force_values values) && not (list_any (is_second table) (unit_words longer key)))) (adds.values key other)
        ∙ ap (λ ws. is_some table.second &&
        (list_any is_read (in_force_values (values_of unit key)) && not (list_any (is_second table) ws))) (words key other)

    abbrev calls_of : Table → Option CallList
    calls_of table = unit_call_list longer table (codes "SystemCallFilter")

    settings_same : (table : Table) → settings_of longer table ≡ with_calls (settings_of unit table) (calls_of table)
    settings_same table =
        same_settings _ (calls_of table) _ (unit_error_action unit (codes "SystemCallErrorNumber")) _
        (unit_family_list unit table (codes "RestrictAddressFamilies")) _ (unit_namespaces unit (codes "RestrictNamespaces"))
        _ unit.systemd _ (unit_flag unit (codes "MemoryDenyWriteExecute")) _ (unit_flag unit (codes "RestrictRealtime")) _
        (unit_flag unit (codes "RestrictSUIDSGID")) _ (unit_flag unit (codes "LockPersonality"))
        _ (unit_flag unit (codes "ProtectHostname")) _ (unit_flag unit (codes "ProtectKernelModules")) _
        (unit_flag unit (codes "ProtectKernelLogs")) _ (unit_flag unit (codes "ProtectClock")) _
        (unit_flag unit (codes "PrivateDevices")) _ (unit_refuses_second unit table (codes "SystemCallArchitectures"))
        _ (unit_flag unit (codes "ProtectKernelTunables")) _ (unit_domain unit table (codes "Personality"))
        refl (ap (λ value. value.action) (last error_action_value default_action (codes "SystemCallErrorNumber") refl))
        (families table (codes "RestrictAddressFamilies") refl) (types (codes "RestrictNamespaces") refl)
        refl (flag (codes "MemoryDenyWriteExecute") refl) (flag (codes "RestrictRealtime") refl) (flag (codes "RestrictSUIDSGID") refl)
        (flag (codes "LockPersonality") refl)
        (flag (codes "ProtectHostname") refl) (flag (codes "ProtectKernelModules") refl) (flag (codes "ProtectKernelLogs") refl)
        (flag (codes "ProtectClock") refl) (flag (codes "PrivateDevices") refl)
        (unpermitted table (codes "SystemCallArchitectures") refl) (flag (codes "ProtectKernelTunables") refl)
        (last (domain_named table) Linux (codes "Personality") refl)

    dynamic : is_dynamic longer ≡ is_dynamic unit
    unfolding is_dynamic
    dynamic = flag (codes "DynamicUser") refl

    pub filters : (table : Table) → unit_filters longer table ≡ with_calls (unit_filters unit table) (calls_of table)
    unfolding unit_filters
    filters table = ap (λ on. with_dynamic_user on (settings_of longer table)) dynamic
        ∙ ap (with_dynamic_user (is_dynamic unit)) (settings_same table)

    -- users, groups and capabilities
    identity : (site : Site) (on leaves : Bool) → identity_of longer site on leaves ≡ identity_of unit site on leaves
    unfolding identity_of
    identity site on leaves =
        ap (λ word. identity_from unit.systemd site on leaves word (group_word longer) (further_words longer)) (text (codes "User") refl)
        ∙ ap (λ word. identity_from unit.systemd site on leaves (user_word unit) word (further_words longer)) (text (codes "Group") refl)
        ∙ ap (identity_from unit.systemd site on leaves (user_word unit) (group_word unit)) (words (codes "SupplementaryGroups") refl)

    caps : (key : List ℕ) (default : Option ℕ) → is_other key → unit_caps longer key default ≡ unit_caps unit key default
    unfolding unit_caps
    caps key default other = ap (caps_read unit.systemd default) (lines key other)

    taken_same : (settings : FilterSettings) (calls : Option CallList) → taken_caps (with_calls settings calls) ≡ taken_caps settings
    unfolding taken_caps
    taken_same settings calls = refl

    pub bounding : (table : Table) → unit_bounding longer table ≡ unit_bounding unit table
    bounding table =
        ap (λ set. left_of set (unit_filters longer table)) (caps (codes "CapabilityBoundingSet") _ refl)
        ∙ ap (left_of (bounding_of unit)) (filters table)
        ∙ ap (minus (bounding_of unit)) (taken_same (unit_filters unit table) (calls_of table))

    ambient_key : ambient_of longer ≡ ambient_of unit
    ambient_key = caps (codes "AmbientCapabilities") _ refl

    pub ambient : (table : Table) → unit_ambient longer table ≡ unit_ambient unit table
    ambient table = ap (λ set. ambient_within unit.systemd set (unit_bounding longer table)) ambient_key
        ∙ ap (ambient_within unit.systemd (ambient_of unit)) (bounding table)

    valued : (key : List ℕ) → is_other key → has_value longer key ≡ has_value unit key
    valued key other = ap (λ (values : List Value). not (length (in_force_values values) == 0)) (adds.values key other)

    pub counted : counts_as_filter longer ≡ counts_as_filter unit
    unfolding counts_as_filter
    counted =
        ap (λ on. on || (has_value longer (codes "SystemCallArchitectures") || has_value longer (codes "SystemCallLog")))
        (flag (codes "ProtectKernelTunables") refl)
        ∙ ap (λ on. unit_flag unit (codes "ProtectKernelTunables") || (on || has_value longer (codes "SystemCallLog")))
        (valued (codes "SystemCallArchitectures") refl)
        ∙ ap (λ on. unit_flag unit (codes "ProtectKernelTunables") || (has_value unit (codes "SystemCallArchitectures") || on))
        (valued (codes "SystemCallLog") refl)

    pub sets : sets_new_privileges longer ≡ sets_new_privileges unit
    sets = ap (λ on. on || is_dynamic longer) (flag (codes "NoNewPrivileges") refl)
        ∙ ap (λ on. unit_flag unit (codes "NoNewPrivileges") || on) dynamic

    -- paths
    paths : unit_written longer ≡ unit_written unit
    unfolding unit_written
    paths = ap (written (dialect_of unit.systemd)) adds.paths

    switches : unit_switches longer ≡ unit_switches unit
    unfolding unit_switches
    switches =
        let a = flag (codes "PrivateDevices") refl in
        let b = flag (codes "ProtectKernelModules") refl in
        let c = flag (codes "ProtectKernelLogs") refl in
        let d = dynamic in
        cc

    same_mounts : SameValues unit longer
    same_mounts =
        each_but (codes "SystemCallFilter") (λ key. values_of longer key ≡ values_of unit key) adds.values mount_keys refl

    pub mentions : (site : Site) → unit_mentions longer site ≡ unit_mentions unit site
    unfolding unit_mentions
    mentions site =
        ap (λ on. all_mentions longer site on (unit_written longer)) switches
        ∙ ap (all_mentions longer site (unit_switches unit)) paths
        ∙ same_mentions unit longer refl same_mounts site (unit_switches unit) (unit_written unit)

    -- the command
    values_same : (systemd : Option Version) → values_by systemd longer ≡ values_by systemd unit
    values_same None = adds.values (codes "ExecStart") refl
    values_same (Some version) = adds.written (codes "ExecStart") refl

    command : unit_command longer ≡ unit_command unit
    unfolding unit_command reading_of
    command = ap (launched_of unit) (values_same unit.systemd)

    leaves_same : unit_leaves_ids longer ≡ unit_leaves_ids unit
    unfolding unit_leaves_ids
    leaves_same = ap (λ one. option_map_or (λ (launched : Command). launched.leaves_ids) one false) command

    pub runs_as : (site : Site) → unit_identity longer site ≡ unit_identity unit site
    runs_as site =
        ap (λ on. identity_of longer site on (unit_leaves_ids longer)) dynamic
        ∙ ap (λ leaves. identity_of longer site (is_dynamic unit) leaves) leaves_same
        ∙ identity site (is_dynamic unit) (unit_leaves_ids unit)

    -- the path of its program
    path_same : (site : Site) (one : Program) → path_of longer site one ≡ path_of unit site one
    unfolding looked_up
    path_same site (Absolute path) = refl
    path_same site Relative = refl
    path_same site (Named name) =
        ap (λ values. find (has_exe site) (filter_map (path_in name)
        (cond (not (length (in_force_values values) == 0)) [] (folders_of unit.systemd)))) (adds.written (codes "ExecSearchPath") refl)

    paths_same : (site : Site) (one : Option Command) → program_path longer site one ≡ program_path unit site one
    paths_same site None = refl
    paths_same site (Some launched) = path_same site launched.program

    pub program : (site : Site) → unit_program longer site ≡ unit_program unit site
    unfolding unit_program
    program site = ap (program_path longer site) command ∙ paths_same site (unit_command unit)

    outside_same : (relative : Bool) (row : List ℕ × Meaning) → is_safe_by row.0 row.1 ≡ true
        → is_outside longer relative row ≡ is_outside unit relative row
    unfolding is_safe_by
    outside_same relative row safe = by row.1 safe
      where
        by : (meaning : Meaning) → is_safe_by row.0 meaning ≡ true
            → is_outside_by longer relative row.0 meaning ≡ is_outside_by unit relative row.0 meaning
        by (means.Place key) safe = ap (λ all. mentions_root all key) paths
        by means.Command safe = refl
        by means.Refused safe = adds.asked row.0 (unset (bytes_eq (codes "SystemCallFilter") row.0) safe)
        by means.Credentials safe = refl
        by means.Filter safe = refl
        by means.Protection safe = refl
        by means.Path safe = refl

    outside_key_same : (relative : Bool) → outside_key longer relative ≡ outside_key unit relative
    unfolding outside_key
    outside_key_same relative = ap (option_map (λ row. row.0))
        (find_agree (λ (row : List ℕ × Meaning). is_safe_by row.0 row.1) (is_outside longer relative) (is_outside unit relative)
        (outside_same relative) (keys unit.systemd) (all_safe unit.systemd))

    outside_for : (site : Site) (launched : Option Command) → outside longer site launched ≡ outside unit site launched
    outside_for site None = refl
    outside_for site (Some launched) =
        ap (option_map OutsideProfile)
        (outside_key_same (is_relative longer site launched.program)
        ∙ ap (λ path. outside_key unit (not (is_some path))) (path_same site launched.program))

    -- why it is refused
    command_refused : (site : Site) → command_refusal longer site ≡ command_refusal unit site
    unfolding command_refusal
    command_refused site =
        ap (λ launched. first_reason (no_command launched ∷ privileged launched ∷ outside longer site launched ∷ [])) command
        ∙ ap (λ reason. first_reason (no_command (unit_command unit) ∷ privileged (unit_command unit) ∷ reason ∷ []))
        (outside_for site (unit_command unit))

    identity_refused : (site : Site) → identity_refusal longer site ≡ identity_refusal unit site
    unfolding identity_refusal
    identity_refused site = ap identity_reason (runs_as site)

    paths_refused : paths_refusal longer ≡ paths_refusal unit
    unfolding paths_refusal
    paths_refused = ap (λ all. cond (nat_lt 128 (length all)) (Some TooManyPaths) None) paths

    pub refused : (table : Table) (site : Site) → refusal_of longer table site
        ≡ first_reason (command_refusal unit site ∷ identity_refusal unit site ∷ group_refusal longer table ∷ paths_refusal unit ∷ [])
    unfolding refusal_of
    refused table site =
        ap (λ reason. first_reason (reason ∷ identity_refusal longer site ∷ group_refusal longer table ∷ paths_refusal longer ∷ []))
        (command_refused site)
        ∙ ap (λ reason. first_reason (command_refusal unit site ∷ reason ∷ group_refusal longer table ∷ paths_refusal longer ∷ []))
        (identity_refused site)
        ∙ ap (λ reason. first_reason (command_refusal unit site ∷ identity_refusal unit site ∷ group_refusal longer table ∷ reason ∷ []))
        paths_refused
