-- Further keys of a unit that decide about its mounts (systemd.exec(5)). The last value that can be read decides.
use Rattle.std.specs.Prelude.{ℕ, ◌==◌, ◌||◌, not, Bool, true, false, codes, List, Option, Some, None, length}
use Rattle.dropin_merge.specs.declared.resolved.Resolved.{Resolved}
use Rattle.dropin_merge.specs.declared.unit_values.value.FileNote.{FileNote}
use Rattle.dropin_merge.specs.unit_names.declared.version.Version.{Version}
use Rattle.dropin_merge.specs.unit_names.declared.version.Version.TheVariants.{V252, V257}
use Rattle.dropin_merge.specs.unit_values.Flags.{unit_flag, unit_flag_notes}
use Rattle.dropin_merge.specs.unit_values.Lasting.{unit_last, unit_last_notes, unit_last_text}
use Rattle.mount_settings.specs.declared.systemd.keys.FurtherKeys.{FurtherKeys}
use Rattle.mount_settings.specs.declared.systemd.words.ControlGroups.{ControlGroups}
use Rattle.mount_settings.specs.declared.systemd.words.ControlGroups.TheVariants as groups
use Rattle.mount_settings.specs.declared.systemd.words.PrivateMounts.TheVariants as mounts
use Rattle.mount_settings.specs.declared.systemd.words.OwnTmp.TheVariants as tmp
use Rattle.mount_settings.specs.systemd.Words.{proc_value, subset_value, network_value, mounts_value, groups_value, preserve_value, own_tmp_value}

-- the key is given: its last value is not empty
abbrev pub is_given : Resolved → List ℕ → Bool
is_given unit key = not (length (unit_last_text unit key) == 0)

-- a key passes a credential to the service
abbrev pub has_credentials : Resolved → Bool
has_credentials unit = is_given unit (codes "LoadCredential") || (is_given unit (codes "LoadCredentialEncrypted") ||
    (is_given unit (codes "ImportCredential") ||
    (is_given unit (codes "SetCredential") || is_given unit (codes "SetCredentialEncrypted"))))

-- the service has its own network namespace, or joins the one at a path
abbrev pub has_own_network : Resolved → Bool
has_own_network unit = unit_flag unit (codes "PrivateNetwork") ||
    (unit_last network_value (record { is_given = false }) unit (codes "NetworkNamespacePath")).is_given

-- ProtectControlGroups= is a boolean; systemd 257 also reads words
abbrev pub flag_groups : Bool → ControlGroups
flag_groups true = groups.Yes
flag_groups false = groups.No

abbrev pub groups_by : Option Version → Resolved → ControlGroups
groups_by None unit = flag_groups (unit_flag unit (codes "ProtectControlGroups"))
groups_by (Some V252) unit = flag_groups (unit_flag unit (codes "ProtectControlGroups"))
groups_by (Some V257) unit = unit_last groups_value groups.No unit (codes "ProtectControlGroups")

abbrev pub unit_groups : Resolved → ControlGroups
unit_groups unit = groups_by unit.systemd unit

abbrev pub groups_notes_by : Option Version → Resolved → List FileNote
groups_notes_by None unit = unit_flag_notes unit (codes "ProtectControlGroups")
groups_notes_by (Some V252) unit = unit_flag_notes unit (codes "ProtectControlGroups")
groups_notes_by (Some V257) unit = unit_last_notes groups_value unit (codes "ProtectControlGroups")

abbrev pub unit_groups_notes : Resolved → List FileNote
unit_groups_notes unit = groups_notes_by unit.systemd unit

-- the values of these keys in the files of a unit
unfoldable pub unit_keys : Resolved → FurtherKeys
unit_keys unit = record {
  protect_proc = (unit_last proc_value (record { is_limited = false }) unit (codes "ProtectProc")).is_limited;
  proc_subset = (unit_last subset_value (record { is_limited = false }) unit (codes "ProcSubset")).is_limited;
  mount_api_vfs = unit_flag unit (codes "MountAPIVFS");
  private_mounts = unit_last mounts_value mounts.Unset unit (codes "PrivateMounts");
  private_ipc = unit_flag unit (codes "PrivateIPC");
  private_pids = unit_flag unit (codes "PrivatePIDs");
  log_namespace = is_given unit (codes "LogNamespace");
  bind_log_sockets = unit_flag unit (codes "BindLogSockets");
  own_network = has_own_network unit;
  credentials = has_credentials unit;
  protect_hostname = unit_flag unit (codes "ProtectHostname");
  control_groups = unit_groups unit;
  keeps_runtime = (unit_last preserve_value (record { is_kept = false }) unit (codes "RuntimeDirectoryPreserve")).is_kept;
  own_tmp = unit_last own_tmp_value tmp.No unit (codes "PrivateTmp");
  no_new_privs = unit_flag unit (codes "NoNewPrivileges");
}

-- the values of these keys if the unit gives none
abbrev pub no_keys : FurtherKeys
no_keys = record {
  protect_proc = false;
  proc_subset = false;
  mount_api_vfs = false;
  private_mounts = mounts.Unset;
  private_ipc = false;
  private_pids = false;
  log_namespace = false;
  bind_log_sockets = false;
  own_network = false;
  credentials = false;
  protect_hostname = false;
  control_groups = groups.No;
  keeps_runtime = false;
  own_tmp = tmp.No;
  no_new_privs = false;
}
