-- The settings that DynamicUser= implies (systemd.exec(5), DynamicUser=).
use Rattle.std.specs.Prelude.{◌||◌, Bool, List, codes}
use Rattle.filter_settings.specs.call_table.Table.{Table}
use Rattle.cred_settings.specs.dropin_merge.declared.resolved.Resolved.{Resolved}
use Rattle.cred_settings.specs.NewPrivileges.{is_set_by}
use Rattle.filter_settings.specs.declared.filter_rules.settings.FilterSettings.{FilterSettings}
use Rattle.filter_settings.specs.Settings.{settings_of}
use Rattle.cred_settings.specs.dropin_merge.declared.unit_values.value.FileNote.{FileNote}
use Rattle.cred_settings.specs.dropin_merge.unit_values.Flags.{unit_flag, unit_flag_notes}

unfoldable pub is_dynamic : Resolved → Bool
is_dynamic unit = unit_flag unit (codes "DynamicUser")

unfoldable pub dynamic_notes : Resolved → List FileNote
dynamic_notes unit = unit_flag_notes unit (codes "DynamicUser")

-- DynamicUser= implies RestrictSUIDSGID=, whatever its own value is
abbrev pub with_dynamic_user : Bool → FilterSettings → FilterSettings
with_dynamic_user dynamic said = record {
  calls = said.calls;
  default_action = said.default_action;
  families = said.families;
  namespaces = said.namespaces;
  memory_deny_write_execute = said.memory_deny_write_execute;
  restrict_realtime = said.restrict_realtime;
  restrict_suid_sgid = said.restrict_suid_sgid || dynamic;
  lock_personality = said.lock_personality;
  protect_hostname = said.protect_hostname;
  protect_kernel_modules = said.protect_kernel_modules;
  protect_kernel_logs = said.protect_kernel_logs;
  protect_clock = said.protect_clock;
  private_devices = said.private_devices;
  second_abi_refused = said.second_abi_refused;
  systemd = said.systemd;
  protect_kernel_tunables = said.protect_kernel_tunables;
  domain = said.domain;
}

-- the settings of the filters, by their keys
unfoldable pub unit_filters : Resolved → Table → FilterSettings
unit_filters unit table = with_dynamic_user (is_dynamic unit) (settings_of unit table)

-- DynamicUser= implies NoNewPrivileges=
abbrev pub sets_new_privileges : Resolved → Bool
sets_new_privileges unit = is_set_by unit || is_dynamic unit
