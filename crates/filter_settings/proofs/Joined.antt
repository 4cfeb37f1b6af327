-- The settings of all keys together.
use Rattle.std.proofs.Common.{◌≡◌, Bool, Option, codes, ap}
use Rattle.dropin_merge.specs.unit_names.declared.version.Version.{Version}
use Rattle.dropin_merge.specs.declared.resolved.Resolved.{Resolved}
use Rattle.call_table.specs.Table.{Table}
use Rattle.call_rules.specs.declared.actions.Action.{Action}
use Rattle.filter_settings.specs.declared.filter_rules.mentions.CallList.{CallList}
use Rattle.filter_settings.specs.declared.filter_rules.mentions.FamilyList.{FamilyList}
use Rattle.filter_settings.specs.declared.filter_rules.namespace_types.NamespaceTypes.{NamespaceTypes}
use Rattle.filter_settings.specs.declared.filter_rules.settings.FilterSettings.{FilterSettings}
use Rattle.dropin_merge.specs.unit_values.Flags.{unit_flag}
use Rattle.filter_settings.specs.declared.filter_rules.personality.Domain.{Domain}
use Rattle.filter_settings.specs.Domains.{unit_domain}
use Rattle.filter_settings.specs.ErrorActions.{unit_error_action}
use Rattle.filter_settings.specs.Architectures.{unit_refuses_second}
use Rattle.filter_settings.specs.CallLists.{unit_call_list}
use Rattle.filter_settings.specs.FamilyLists.{unit_family_list}
use Rattle.filter_settings.specs.Namespaces.{unit_namespaces}
use Rattle.filter_settings.specs.declared.settings.Booleans.{Booleans}
use Rattle.filter_settings.specs.Settings.{flags_of, settings_of}

-- the settings with these values
abbrev pub made : Bool → Bool → Bool → Bool → Bool → Bool → Bool → Bool → Bool → Action → NamespaceTypes → Option FamilyList
    → Option CallList → Bool → Option Version → Bool → Domain → FilterSettings
made memory realtime suid personality hostname modules logs clock devices action types families calls refused systemd tunables domain =
    record {
      calls = calls;
      default_action = action;
      families = families;
      namespaces = types;
      memory_deny_write_execute = memory;
      restrict_realtime = realtime;
      restrict_suid_sgid = suid;
      lock_personality = personality;
      protect_hostname = hostname;
      protect_kernel_modules = modules;
      protect_kernel_logs = logs;
      protect_clock = clock;
      private_devices = devices;
      second_abi_refused = refused;
      systemd = systemd;
      protect_kernel_tunables = tunables;
      domain = domain;
    }

pub joined_settings : (unit : Resolved) (table : Table) {memory realtime suid personality hostname modules logs clock devices : Bool}
    {action : Action} {types : NamespaceTypes} {families : Option FamilyList} {calls : Option CallList} {refused tunables : Bool} {domain : Domain}
    → memory ≡ unit_flag unit (codes "MemoryDenyWriteExecute") → realtime ≡ unit_flag unit (codes "RestrictRealtime")
    → suid ≡ unit_flag unit (codes "RestrictSUIDSGID") → personality ≡ unit_flag unit (codes "LockPersonality")
    → hostname ≡ unit_flag unit (codes "ProtectHostname") → modules ≡ unit_flag unit (codes "ProtectKernelModules")
    → logs ≡ unit_flag unit (codes "ProtectKernelLogs") → clock ≡ unit_flag unit (codes "ProtectClock")
    → devices ≡ unit_flag unit (codes "PrivateDevices") → action ≡ unit_error_action unit (codes "SystemCallErrorNumber")
    → types ≡ unit_namespaces unit (codes "RestrictNamespaces")
    → families ≡ unit_family_list unit table (codes "RestrictAddressFamilies")
    → calls ≡ unit_call_list unit table (codes "SystemCallFilter")
    → refused ≡ unit_refuses_second unit table (codes "SystemCallArchitectures")
    → tunables ≡ unit_flag unit (codes "ProtectKernelTunables")
    → domain ≡ unit_domain unit table (codes "Personality")
    → made memory realtime suid personality hostname modules logs clock devices action types families calls refused unit.systemd tunables domain
    ≡ settings_of unit table
joined_settings unit table a b c d e f g h i j k l m n o p = cc

pub joined_flags : (unit : Resolved) {memory realtime suid personality hostname modules logs clock devices : Bool}
    → memory ≡ unit_flag unit (codes "MemoryDenyWriteExecute") → realtime ≡ unit_flag unit (codes "RestrictRealtime")
    → suid ≡ unit_flag unit (codes "RestrictSUIDSGID") → personality ≡ unit_flag unit (codes "LockPersonality")
    → hostname ≡ unit_flag unit (codes "ProtectHostname") → modules ≡ unit_flag unit (codes "ProtectKernelModules")
    → logs ≡ unit_flag unit (codes "ProtectKernelLogs") → clock ≡ unit_flag unit (codes "ProtectClock")
    → devices ≡ unit_flag unit (codes "PrivateDevices")
    → record { memory_deny_write_execute = memory; restrict_realtime = realtime; restrict_suid_sgid = suid; lock_personality = personality; protect_hostname = hostname; protect_kernel_modules = modules; protect_kernel_logs = logs; protect_clock = clock; private_devices = devices } ≡ flags_of unit
joined_flags unit a b c d e f g h i = cc

pub settings_by_flags : (unit : Resolved) (table : Table) {flags : Booleans} {action : Action} {types : NamespaceTypes}
    {families : Option FamilyList} {calls : Option CallList} {refused tunables : Bool} {domain : Domain}
    → flags ≡ flags_of unit → action ≡ unit_error_action unit (codes "SystemCallErrorNumber")
    → types ≡ unit_namespaces unit (codes "RestrictNamespaces")
    → families ≡ unit_family_list unit table (codes "RestrictAddressFamilies")
    → calls ≡ unit_call_list unit table (codes "SystemCallFilter")
    → refused ≡ unit_refuses_second unit table (codes "SystemCallArchitectures")
    → tunables ≡ unit_flag unit (codes "ProtectKernelTunables")
    → domain ≡ unit_domain unit table (codes "Personality")
    → made flags.memory_deny_write_execute flags.restrict_realtime flags.restrict_suid_sgid flags.lock_personality flags.protect_hostname
    flags.protect_kernel_modules flags.protect_kernel_logs flags.protect_clock flags.private_devices action types families calls
    refused unit.systemd tunables domain ≡ settings_of unit table
settings_by_flags unit table f a b c d e g h =
    joined_settings unit table (ap (λ (x : Booleans). x.memory_deny_write_execute) f) (ap (λ (x : Booleans). x.restrict_realtime) f)
    (ap (λ (x : Booleans). x.restrict_suid_sgid) f) (ap (λ (x : Booleans). x.lock_personality) f)
    (ap (λ (x : Booleans). x.protect_hostname) f) (ap (λ (x : Booleans). x.protect_kernel_modules) f)
    (ap (λ (x : Booleans). x.protect_kernel_logs) f) (ap (λ (x : Booleans). x.protect_clock) f)
    (ap (λ (x : Booleans). x.private_devices) f) a b c d e g h
