-- The mentions of a unit, and the greatest number of paths that it may write (systemd.exec(5), Paths, Sandboxing).
use Rattle.std.specs.Prelude.{nat_lt, cond, Bool, List, length, Option, Some, None, codes}
use Rattle.cred_settings.specs.dropin_merge.declared.resolved.Resolved.{Resolved}
use Rattle.filter_settings.specs.declared.filter_rules.settings.FilterSettings.{FilterSettings}
use Rattle.mount_settings.specs.path_settings.declared.mentioned.Mentioned.{Mentioned}
use Rattle.cred_settings.specs.site_table.Table.{Site}
use Rattle.cred_settings.specs.dropin_merge.unit_values.Flags.{unit_flag}
use Rattle.mount_settings.specs.declared.protections.Switches.{Switches}
use Rattle.mount_settings.specs.Settings.{all_mentions}
use Rattle.mount_settings.specs.Written.{unit_written}
use Rattle.exec_settings.specs.Dynamic.{is_dynamic}
use Rattle.exec_settings.specs.declared.errors.SettingsError.{SettingsError}
use Rattle.exec_settings.specs.declared.errors.SettingsError.TheVariants.{TooManyPaths}

-- the keys that imply paths and do other things too
abbrev pub switches_of : Bool → FilterSettings → Switches
switches_of dynamic filters = record {
  private_devices = filters.private_devices;
  protect_kernel_modules = filters.protect_kernel_modules;
  protect_kernel_logs = filters.protect_kernel_logs;
  dynamic_user = dynamic;
}

unfoldable pub unit_switches : Resolved → Switches
unit_switches unit = record {
  private_devices = unit_flag unit (codes "PrivateDevices");
  protect_kernel_modules = unit_flag unit (codes "ProtectKernelModules");
  protect_kernel_logs = unit_flag unit (codes "ProtectKernelLogs");
  dynamic_user = is_dynamic unit;
}

-- all mentions: the written ones, followed by the implied ones
unfoldable pub unit_mentions : Resolved → Site → Mentioned
unit_mentions unit site = all_mentions unit site (unit_switches unit) (unit_written unit)

-- a unit with more than 128 written paths is refused
unfoldable pub paths_refusal : Resolved → Option SettingsError
paths_refusal unit = cond (nat_lt 128 (length (unit_written unit))) (Some TooManyPaths) None
