-- Values of further keys that decide about the mounts of a service (systemd.exec(5)).
use Rattle.std.specs.Prelude.{ℕ, ◌==◌, Bool, true, false, cond, codes, List, [], ◌∷◌, Option, Some, None}
use Rattle.std.specs.Option.{option_map}
use Rattle.std.specs.Str.{byte as ascii}
use Rattle.dropin_merge.specs.text_forms.Booleans.{bool_value}
use Rattle.mount_settings.specs.declared.systemd.words.ProtectProc.{ProtectProc}
use Rattle.mount_settings.specs.declared.systemd.words.ProcSubset.{ProcSubset}
use Rattle.mount_settings.specs.declared.systemd.words.NetworkPath.{NetworkPath}
use Rattle.mount_settings.specs.declared.systemd.words.Preserve.{Preserve}
use Rattle.mount_settings.specs.declared.systemd.words.PrivateMounts.{PrivateMounts}
use Rattle.mount_settings.specs.declared.systemd.words.PrivateMounts.TheVariants as mounts
use Rattle.mount_settings.specs.declared.systemd.words.ControlGroups.{ControlGroups}
use Rattle.mount_settings.specs.declared.systemd.words.ControlGroups.TheVariants as groups
use Rattle.mount_settings.specs.declared.systemd.words.OwnTmp.{OwnTmp}
use Rattle.mount_settings.specs.declared.systemd.words.OwnTmp.TheVariants as tmp
use Rattle.mount_settings.specs.Choices.{beside, choice}

-- ProtectProc=: some processes are invisible; an empty value means the default, by which all are visible
abbrev pub limits_proc : List ℕ → Option Bool
limits_proc text =
    beside (([], false) ∷ (codes "default", false) ∷ (codes "noaccess", true) ∷ (codes "invisible", true) ∷ (codes "ptraceable", true) ∷ [])
    text

abbrev pub proc_value : List ℕ → Option ProtectProc
proc_value text = option_map (λ is. record { is_limited = is }) (limits_proc text)

-- ProcSubset=: with `pid` /proc has only the processes; an empty value means the default, `all`
abbrev pub limits_subset : List ℕ → Option Bool
limits_subset text = beside (([], false) ∷ (codes "all", false) ∷ (codes "pid", true) ∷ []) text

abbrev pub subset_value : List ℕ → Option ProcSubset
subset_value text = option_map (λ is. record { is_limited = is }) (limits_subset text)

-- NetworkNamespacePath=: an absolute path; an empty value unsets it
abbrev pub names_network : List ℕ → Option Bool
names_network [] = Some false
names_network (byte ∷ text) = cond (byte == ascii "/") (Some true) None

abbrev pub network_value : List ℕ → Option NetworkPath
network_value text = option_map (λ is. record { is_given = is }) (names_network text)

-- RuntimeDirectoryPreserve=: a boolean, or `restart`, which keeps the folders too
abbrev pub keeps_folders : List ℕ → Option Bool
keeps_folders text = choice false true ((codes "restart", true) ∷ []) text

abbrev pub preserve_value : List ℕ → Option Preserve
preserve_value text = option_map (λ is. record { is_kept = is }) (keeps_folders text)

-- PrivateMounts=: a boolean; an empty value unsets it
abbrev pub mounts_said : Option Bool → Option PrivateMounts
mounts_said None = None
mounts_said (Some true) = Some mounts.Yes
mounts_said (Some false) = Some mounts.No

abbrev pub mounts_value : List ℕ → Option PrivateMounts
mounts_value [] = Some mounts.Unset
mounts_value (byte ∷ text) = mounts_said (bool_value (byte ∷ text))

abbrev pub is_yes : PrivateMounts → Bool
is_yes mounts.Unset = false
is_yes mounts.No = false
is_yes mounts.Yes = true

abbrev pub is_unset : PrivateMounts → Bool
is_unset mounts.Unset = true
is_unset mounts.No = false
is_unset mounts.Yes = false

-- ProtectControlGroups= of systemd 257: a boolean, `private` or `strict`
abbrev pub groups_value : List ℕ → Option ControlGroups
groups_value text = choice groups.No groups.Yes ((codes "private", groups.Private) ∷ (codes "strict", groups.Strict) ∷ []) text

abbrev pub is_on : ControlGroups → Bool
is_on groups.No = false
is_on groups.Yes = true
is_on groups.Private = true
is_on groups.Strict = true

abbrev pub is_private : ControlGroups → Bool
is_private groups.No = false
is_private groups.Yes = false
is_private groups.Private = true
is_private groups.Strict = false

-- PrivateTmp=: a boolean, or `disconnected`, which systemd 252 does not know
abbrev pub own_tmp_value : List ℕ → Option OwnTmp
own_tmp_value text = choice tmp.No tmp.Yes ((codes "disconnected", tmp.Disconnected) ∷ []) text

abbrev pub is_plain_tmp : OwnTmp → Bool
is_plain_tmp tmp.No = false
is_plain_tmp tmp.Yes = true
is_plain_tmp tmp.Disconnected = false
