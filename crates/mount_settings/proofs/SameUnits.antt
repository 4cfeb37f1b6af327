-- Units whose keys have the same values have the same protections, the same mentions and the same notes.
use Rattle.std.proofs.Common.{◌≡◌, ℕ, Bool, true, false, Option, Some, None, List, [], ◌∷◌, ◌++◌, refl, ap, ◌∙◌}
use Rattle.std.specs.Prelude.{codes, length, ◌==◌, not}
use Rattle.std.specs.List.{AllByRecursion, list_all}
use Rattle.std.specs.Str.{bytes_eq}
use Rattle.dropin_merge.specs.declared.resolved.Resolved.{Resolved}
use Rattle.dropin_merge.specs.unit_names.declared.version.Version.{Version}
use Rattle.dropin_merge.specs.unit_names.declared.version.Version.TheVariants.{V252, V257}
use Rattle.dropin_merge.specs.unit_values.Assignments.{service_assignments}
use Rattle.dropin_merge.specs.unit_values.Flags.{flag_value, unit_flag}
use Rattle.dropin_merge.specs.unit_values.Lasting.{last_read, last_text, unread_notes, unit_last, unit_last_notes, unit_last_text}
use Rattle.dropin_merge.specs.unit_values.Values.{values_of, notes_of}
use Rattle.site_table.specs.Table.{Site}
use Rattle.path_settings.specs.declared.mentioned.Mentioned.TheVariants.{Base, Systemd}
use Rattle.mount_settings.specs.declared.written.WrittenPath.{WrittenPath}
use Rattle.mount_settings.specs.declared.protections.HomeProtection.TheVariants as home
use Rattle.mount_settings.specs.declared.protections.SystemProtection.TheVariants as system
use Rattle.mount_settings.specs.declared.protections.Switches.{Switches}
use Rattle.mount_settings.specs.declared.systemd.words.ControlGroups.TheVariants as groups
use Rattle.mount_settings.specs.declared.systemd.words.PrivateMounts.TheVariants as mounts
use Rattle.mount_settings.specs.Home.{home_value}
use Rattle.mount_settings.specs.Implied.{implied}
use Rattle.mount_settings.specs.Protections.{unit_protections, protection_notes, in_effect}
use Rattle.mount_settings.specs.Settings.{mentions_of, entries_by, mentions_in, nothing_in, all_mentions, protections_of}
use Rattle.mount_settings.specs.System.{system_value}
use Rattle.mount_settings.specs.Tmp.{tmp_value, tmp_by, tmp_notes_by, unit_tmp, unit_tmp_notes}
use Rattle.mount_settings.specs.systemd.Keys.{flag_groups, groups_by, groups_notes_by, is_given, unit_groups, unit_groups_notes, unit_keys}
use Rattle.mount_settings.specs.systemd.Mentions.{implied_of, sets_no_new_privs}
use Rattle.mount_settings.proofs.EachMention.{both}
use Rattle.mount_settings.specs.declared.systemd.words.OwnTmp.TheVariants as tmp
use Rattle.mount_settings.specs.systemd.Words.{groups_value, is_on, mounts_value, network_value, preserve_value, proc_value, subset_value, own_tmp_value}

-- the keys whose values that cannot be read are noted, and then all keys that decide about mounts
abbrev pub noted_keys : List (List ℕ)
noted_keys =
    codes "ProtectSystem" ∷ codes "ProtectHome" ∷ codes "PrivateTmp" ∷ codes "ProtectKernelTunables" ∷ codes "ProtectControlGroups" ∷ []

abbrev pub mount_keys : List (List ℕ)
mount_keys =
    codes "ProtectSystem" ∷ codes "ProtectHome" ∷ codes "PrivateTmp" ∷ codes "ProtectKernelTunables" ∷ codes "ProtectControlGroups"
    ∷ codes "ProtectProc" ∷ codes "ProcSubset" ∷ codes "MountAPIVFS" ∷ codes "PrivateMounts" ∷ codes "PrivateIPC" ∷ codes "PrivatePIDs"
    ∷ codes "LogNamespace" ∷ codes "BindLogSockets" ∷ codes "PrivateNetwork" ∷ codes "NetworkNamespacePath" ∷ codes "LoadCredential"
    ∷ codes "LoadCredentialEncrypted" ∷ codes "ImportCredential" ∷ codes "SetCredential" ∷ codes "SetCredentialEncrypted"
    ∷ codes "ProtectHostname" ∷ codes "RuntimeDirectoryPreserve" ∷ codes "NoNewPrivileges" ∷ []

abbrev pub SameValues : Resolved → Resolved → Type 0
SameValues unit other = AllByRecursion (λ key. values_of other key ≡ values_of unit key) mount_keys

abbrev pub SameNotes : Resolved → Resolved → Type 0
SameNotes unit other = AllByRecursion (λ key. notes_of other key ≡ notes_of unit key) noted_keys

-- if each key has a property, so have these
pub each_of : (P : List ℕ → Type 0) → ((key : List ℕ) → P key) → (keys : List (List ℕ)) → AllByRecursion P keys
each_of P h [] = tt
each_of P h (key ∷ keys) = (h key, each_of P h keys)

-- if each key but one has a property, so have these, as the one is not among them
pub each_but : (name : List ℕ) (P : List ℕ → Type 0) → ((key : List ℕ) → bytes_eq name key ≡ false → P key) → (keys : List (List ℕ))
    → list_all (λ key. not (bytes_eq name key)) keys ≡ true → AllByRecursion P keys
each_but name P h [] all = tt
each_but name P h (key ∷ keys) all =
    let parts = both (not (bytes_eq name key)) (list_all (λ other. not (bytes_eq name other)) keys) all in
    (h key (is_not (bytes_eq name key) parts.0), each_but name P h keys parts.1)
  where
    is_not : (b : Bool) → not b ≡ true → b ≡ false
    is_not true e = cc
    is_not false e = refl

module _ (unit other : Resolved) (systemd : other.systemd ≡ unit.systemd) (same : SameValues unit other) where
  last : {X : Type 0} (read : List ℕ → Option X) (default : X) (key : List ℕ) → values_of other key ≡ values_of unit key
      → unit_last read default other key ≡ unit_last read default unit key
  unfolding unit_last
  last read default key own = ap (last_read read default) own

  flag : (key : List ℕ) → values_of other key ≡ values_of unit key → unit_flag other key ≡ unit_flag unit key
  flag key own = last flag_value false key own

  given : (key : List ℕ) → values_of other key ≡ values_of unit key → is_given other key ≡ is_given unit key
  unfolding unit_last_text
  given key own = ap (λ values. not (length (last_text values) == 0)) own

  tmp_same : (version : Option Version) → tmp_by version other ≡ tmp_by version unit
  tmp_same None = ap (λ value. value.on) (last tmp_value (record { on = false }) (codes "PrivateTmp") same.1.1.0)
  tmp_same (Some V252) = flag (codes "PrivateTmp") same.1.1.0
  tmp_same (Some V257) = ap (λ value. value.on) (last tmp_value (record { on = false }) (codes "PrivateTmp") same.1.1.0)

  groups_same : (version : Option Version) → groups_by version other ≡ groups_by version unit
  groups_same None = ap flag_groups (flag (codes "ProtectControlGroups") same.1.1.1.1.0)
  groups_same (Some V252) = ap flag_groups (flag (codes "ProtectControlGroups") same.1.1.1.1.0)
  groups_same (Some V257) = last groups_value groups.No (codes "ProtectControlGroups") same.1.1.1.1.0

  same_groups : unit_groups other ≡ unit_groups unit
  same_groups = ap (λ version. groups_by version other) systemd ∙ groups_same unit.systemd

  pub same_unit_protections : unit_protections other ≡ unit_protections unit
  unfolding unit_protections
  same_unit_protections =
      let a = last system_value system.No (codes "ProtectSystem") same.0 in
      let b = last home_value home.No (codes "ProtectHome") same.1.0 in
      let c : unit_tmp other ≡ unit_tmp unit = ap (λ version. tmp_by version other) systemd ∙ tmp_same unit.systemd in
      let d = flag (codes "ProtectKernelTunables") same.1.1.1.0 in
      let e : is_on (unit_groups other) ≡ is_on (unit_groups unit) = ap is_on same_groups in
      cc

  pub same_unit_keys : unit_keys other ≡ unit_keys unit
  unfolding unit_keys
  same_unit_keys =
      let rest = same.1.1.1.1.1 in
      let more = rest.1.1.1.1.1 in
      let credentials = more.1.1.1.1.1 in
      let a = ap (λ value. value.is_limited) (last proc_value (record { is_limited = false }) (codes "ProtectProc") rest.0) in
      let b = ap (λ value. value.is_limited) (last subset_value (record { is_limited = false }) (codes "ProcSubset") rest.1.0) in
      let c = flag (codes "MountAPIVFS") rest.1.1.0 in
      let d = last mounts_value mounts.Unset (codes "PrivateMounts") rest.1.1.1.0 in
      let e = flag (codes "PrivateIPC") rest.1.1.1.1.0 in
      let f = flag (codes "PrivatePIDs") more.0 in
      let g = given (codes "LogNamespace") more.1.0 in
      let h = flag (codes "BindLogSockets") more.1.1.0 in
      let i = flag (codes "PrivateNetwork") more.1.1.1.0 in
      let j = ap (λ value. value.is_given) (last network_value (record { is_given = false }) (codes "NetworkNamespacePath") more.1.1.1.1.0) in
      let k = given (codes "LoadCredential") credentials.0 in
      let l = given (codes "LoadCredentialEncrypted") credentials.1.0 in
      let m = given (codes "ImportCredential") credentials.1.1.0 in
      let n = given (codes "SetCredential") credentials.1.1.1.0 in
      let o = given (codes "SetCredentialEncrypted") credentials.1.1.1.1.0 in
      let p = flag (codes "ProtectHostname") credentials.1.1.1.1.1.0 in
      let q = same_groups in
      let s = last own_tmp_value tmp.No (codes "PrivateTmp") same.1.1.0 in
      let r = ap (λ value. value.is_kept)
      (last preserve_value (record { is_kept = false }) (codes "RuntimeDirectoryPreserve") credentials.1.1.1.1.1.1.0) in
      let t = flag (codes "NoNewPrivileges") credentials.1.1.1.1.1.1.1.0 in
      cc

  mentions_same : (version : Option Version) (site : Site) (switches : Switches) (paths : List WrittenPath)
      → mentions_in version other site switches paths ≡ mentions_in version unit site switches paths
  mentions_same None site switches paths =
      ap (λ said. Base (mentions_of site switches (in_effect switches.dynamic_user said) paths)) same_unit_protections
  mentions_same (Some version) site switches paths =
      ap (λ said. Systemd (entries_by version site switches (in_effect switches.dynamic_user said) (unit_keys other) paths)
      (sets_no_new_privs switches (unit_keys other))) same_unit_protections
      ∙ ap (λ keys. Systemd (entries_by version site switches (protections_of unit switches) keys paths) (sets_no_new_privs switches keys))
      same_unit_keys

  pub same_mentions : (site : Site) (switches : Switches) (paths : List WrittenPath)
      → all_mentions other site switches paths ≡ all_mentions unit site switches paths
  same_mentions site switches paths =
      ap (λ version. mentions_in version other site switches paths) systemd ∙ mentions_same unit.systemd site switches paths

  -- ---- the notes
  module _ (noted : SameNotes unit other) where
    joined_same : {X : Type 0} (a b c d : List X) → a ≡ b → c ≡ d → (a ++ c) ≡ (b ++ d)
    joined_same a b c d e f = cc

    last_notes : {X : Type 0} (read : List ℕ → Option X) (key : List ℕ) → values_of other key ≡ values_of unit key
        → notes_of other key ≡ notes_of unit key → unit_last_notes read other key ≡ unit_last_notes read unit key
    unfolding unit_last_notes
    last_notes read key own own_notes = joined_same _ _ _ _ own_notes (ap (unread_notes read) own)

    tmp_noted : (version : Option Version) → tmp_notes_by version other ≡ tmp_notes_by version unit
    tmp_noted None = last_notes tmp_value (codes "PrivateTmp") same.1.1.0 noted.1.1.0
    tmp_noted (Some V252) = last_notes flag_value (codes "PrivateTmp") same.1.1.0 noted.1.1.0
    tmp_noted (Some V257) = last_notes tmp_value (codes "PrivateTmp") same.1.1.0 noted.1.1.0

    groups_noted : (version : Option Version) → groups_notes_by version other ≡ groups_notes_by version unit
    groups_noted None = last_notes flag_value (codes "ProtectControlGroups") same.1.1.1.1.0 noted.1.1.1.1.0
    groups_noted (Some V252) = last_notes flag_value (codes "ProtectControlGroups") same.1.1.1.1.0 noted.1.1.1.1.0
    groups_noted (Some V257) = last_notes groups_value (codes "ProtectControlGroups") same.1.1.1.1.0 noted.1.1.1.1.0

    pub same_protection_notes : protection_notes other ≡ protection_notes unit
    unfolding protection_notes
    same_protection_notes =
        let a = last_notes system_value (codes "ProtectSystem") same.0 noted.0 in
        let b = last_notes home_value (codes "ProtectHome") same.1.0 noted.1.0 in
        let c : unit_tmp_notes other ≡ unit_tmp_notes unit = ap (λ version. tmp_notes_by version other) systemd ∙ tmp_noted unit.systemd in
        let d = last_notes flag_value (codes "ProtectKernelTunables") same.1.1.1.0 noted.1.1.1.0 in
        let e : unit_groups_notes other ≡ unit_groups_notes unit = ap (λ version. groups_notes_by version other) systemd ∙ groups_noted unit.systemd in
        cc

-- ---- a unit without assignments
abbrev pub silent : Resolved → Resolved
silent unit = record unit { files = [] }

abbrev pub unswitched : Switches
unswitched = record { private_devices = false; protect_kernel_modules = false; protect_kernel_logs = false; dynamic_user = false }

none_mentioned : (version : Option Version) (unit : Resolved) (site : Site)
    → mentions_in version (record unit { files = []; systemd = version }) site unswitched [] ≡ nothing_in version
unfolding mentions_of implied entries_by implied_of unit_protections unit_keys unit_last unit_last_text service_assignments
none_mentioned None unit site = refl
none_mentioned (Some V252) unit site = refl
none_mentioned (Some V257) unit site = refl

none_noted : (version : Option Version) (unit : Resolved) → protection_notes (record unit { files = []; systemd = version }) ≡ []
unfolding protection_notes unit_last_notes service_assignments
none_noted None unit = refl
none_noted (Some V252) unit = refl
none_noted (Some V257) unit = refl

-- a unit without a value of these keys has the same settings as one without assignments
module _ (unit : Resolved) (valueless : AllByRecursion (λ key. values_of unit key ≡ []) mount_keys) where
  as_silent : SameValues (silent unit) unit
  unfolding service_assignments
  as_silent = valueless

  pub mentions_nothing : (site : Site) → all_mentions unit site unswitched [] ≡ nothing_in unit.systemd
  mentions_nothing site = same_mentions (silent unit) unit refl as_silent site unswitched [] ∙ none_mentioned unit.systemd unit site

  pub notes_nothing : AllByRecursion (λ key. notes_of unit key ≡ []) noted_keys → protection_notes unit ≡ []
  unfolding service_assignments
  notes_nothing noteless = same_protection_notes (silent unit) unit refl as_silent noteless ∙ none_noted unit.systemd unit
