-- Settings that restrict the system calls of a service (systemd.exec(5), Sandboxing, System Call Filtering), as a version of systemd counts
-- them to decide about NoNewPrivileges=.
use Rattle.std.specs.Prelude.{ℕ, ◌==◌, ◌||◌, not, Bool, List, codes, length}
use Rattle.cred_settings.specs.dropin_merge.declared.resolved.Resolved.{Resolved}
use Rattle.cred_settings.specs.dropin_merge.unit_values.Flags.{unit_flag}
use Rattle.cred_settings.specs.dropin_merge.unit_values.Values.{in_force, values_of}
use Rattle.filter_settings.specs.call_table.Table.{Table}
use Rattle.filter_settings.specs.filter_rules.Installed.{installed}
use Rattle.filter_settings.specs.filter_rules.Memory.{marks_memory}
use Rattle.filter_settings.specs.declared.filter_rules.settings.FilterSettings.{FilterSettings}

-- some filter of system calls is on
abbrev pub has_filter : FilterSettings → Table → Bool
has_filter settings table = not (length (installed settings table) == 0)

-- the key has a value in force
abbrev pub has_value : Resolved → List ℕ → Bool
has_value unit key = not (length (in_force (values_of unit key)) == 0)

-- a setting is on that counts as a filter, even if the model has no filter for it
unfoldable pub counts_as_filter : Resolved → Bool
counts_as_filter unit = unit_flag unit (codes "ProtectKernelTunables")
    || (has_value unit (codes "SystemCallArchitectures") || has_value unit (codes "SystemCallLog"))

-- some filter is on, or a setting that counts as one. MemoryDenyWriteExecute= counts too where it installs no filter (context_has_seccomp)
abbrev pub is_filtered : Resolved → FilterSettings → Table → Bool
is_filtered unit settings table = has_filter settings table || (marks_memory settings || counts_as_filter unit)
