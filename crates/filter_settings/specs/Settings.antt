-- The keys of the system call filters (systemd.exec(5)).
use Rattle.std.specs.Prelude.{List, ◌++◌, codes}
use Rattle.dropin_merge.specs.declared.resolved.Resolved.{Resolved}
use Rattle.dropin_merge.specs.declared.unit_values.value.FileNote.{FileNote}
use Rattle.call_table.specs.Table.{Table}
use Rattle.filter_settings.specs.declared.filter_rules.settings.FilterSettings.{FilterSettings}
use Rattle.dropin_merge.specs.unit_values.Flags.{unit_flag, unit_flag_notes}
use Rattle.filter_settings.specs.declared.settings.Booleans.{Booleans}
use Rattle.filter_settings.specs.ErrorActions.{unit_error_action, unit_error_action_notes}
use Rattle.filter_settings.specs.Architectures.{unit_refuses_second, unit_architectures_notes}
use Rattle.filter_settings.specs.Domains.{unit_domain}
use Rattle.filter_settings.specs.CallLists.{unit_call_list, unit_call_list_notes}
use Rattle.filter_settings.specs.FamilyLists.{unit_family_list, unit_family_list_notes}
use Rattle.filter_settings.specs.Namespaces.{unit_namespaces, unit_namespaces_notes}

-- the values of the boolean keys
abbrev pub flags_of : Resolved → Booleans
flags_of unit =
    record {
      memory_deny_write_execute = unit_flag unit (codes "MemoryDenyWriteExecute");
      restrict_realtime = unit_flag unit (codes "RestrictRealtime");
      restrict_suid_sgid = unit_flag unit (codes "RestrictSUIDSGID");
      lock_personality = unit_flag unit (codes "LockPersonality");
      protect_hostname = unit_flag unit (codes "ProtectHostname");
      protect_kernel_modules = unit_flag unit (codes "ProtectKernelModules");
      protect_kernel_logs = unit_flag unit (codes "ProtectKernelLogs");
      protect_clock = unit_flag unit (codes "ProtectClock");
      private_devices = unit_flag unit (codes "PrivateDevices");
    }

-- what the keys come to; the values of ProtectKernelTunables= are noted where its paths are read, and those of Personality= by its key alone
abbrev pub settings_of : Resolved → Table → FilterSettings
settings_of unit table =
    record {
      calls = unit_call_list unit table (codes "SystemCallFilter");
      default_action = unit_error_action unit (codes "SystemCallErrorNumber");
      families = unit_family_list unit table (codes "RestrictAddressFamilies");
      namespaces = unit_namespaces unit (codes "RestrictNamespaces");
      memory_deny_write_execute = unit_flag unit (codes "MemoryDenyWriteExecute");
      restrict_realtime = unit_flag unit (codes "RestrictRealtime");
      restrict_suid_sgid = unit_flag unit (codes "RestrictSUIDSGID");
      lock_personality = unit_flag unit (codes "LockPersonality");
      protect_hostname = unit_flag unit (codes "ProtectHostname");
      protect_kernel_modules = unit_flag unit (codes "ProtectKernelModules");
      protect_kernel_logs = unit_flag unit (codes "ProtectKernelLogs");
      protect_clock = unit_flag unit (codes "ProtectClock");
      private_devices = unit_flag unit (codes "PrivateDevices");
      second_abi_refused = unit_refuses_second unit table (codes "SystemCallArchitectures");
      systemd = unit.systemd;
      protect_kernel_tunables = unit_flag unit (codes "ProtectKernelTunables");
      domain = unit_domain unit table (codes "Personality");
    }

-- the notes on the boolean keys that restrict the service, and on the boolean keys that protect the system from it
unfoldable pub restriction_notes : Resolved → List FileNote
restriction_notes unit =
    ((unit_flag_notes unit (codes "MemoryDenyWriteExecute") ++ unit_flag_notes unit (codes "RestrictRealtime"))
    ++ unit_flag_notes unit (codes "RestrictSUIDSGID"))
    ++ unit_flag_notes unit (codes "LockPersonality")

unfoldable pub protection_notes : Resolved → List FileNote
protection_notes unit =
    (((unit_flag_notes unit (codes "ProtectHostname") ++ unit_flag_notes unit (codes "ProtectKernelModules"))
    ++ unit_flag_notes unit (codes "ProtectKernelLogs"))
    ++ unit_flag_notes unit (codes "ProtectClock"))
    ++ unit_flag_notes unit (codes "PrivateDevices")

-- the notes on the keys that are actions or lists
unfoldable pub list_notes : Resolved → Table → List FileNote
list_notes unit table =
    (((unit_error_action_notes unit (codes "SystemCallErrorNumber") ++ unit_namespaces_notes unit (codes "RestrictNamespaces"))
    ++ unit_family_list_notes unit table (codes "RestrictAddressFamilies"))
    ++ unit_call_list_notes unit table (codes "SystemCallFilter"))
    ++ unit_architectures_notes unit table (codes "SystemCallArchitectures")

-- all notes, key by key
unfoldable pub filter_notes : Resolved → Table → List FileNote
filter_notes unit table = (restriction_notes unit ++ protection_notes unit) ++ list_notes unit table
