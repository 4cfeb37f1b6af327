-- The parts of the settings of a unit.
use Rattle.std.specs.Prelude.{ℕ, ◌||◌, cond, Bool, Option, Some, None, option_and_then}
use Rattle.mount_settings.specs.abs_path.Paths.{Path}
use Rattle.cred_settings.specs.Ambient.{ambient_of}
use Rattle.cred_settings.specs.Bounding.{bounding_of}
use Rattle.cred_settings.specs.NewPrivileges.{is_in_effect_in, is_keeping}
use Rattle.cred_settings.specs.cap_sets.Sets.{cut}
use Rattle.cred_settings.specs.dropin_merge.unit_names.Versions.{is_known}
use Rattle.cred_settings.specs.dropin_merge.unit_names.declared.version.Version.{Version}
use Rattle.cred_settings.specs.dropin_merge.declared.resolved.Resolved.{Resolved}
use Rattle.filter_settings.specs.call_table.Table.{Table}
use Rattle.filter_settings.specs.declared.filter_rules.settings.FilterSettings.{FilterSettings}
use Rattle.filter_settings.specs.filter_rules.GivingUp.{may_give_up}
use Rattle.cred_settings.specs.site_table.Table.{Site}
use Rattle.exec_settings.specs.declared.commands.Command.{Command}
use Rattle.exec_settings.specs.Bounding.{left_of}
use Rattle.exec_settings.specs.Launched.{unit_command}
use Rattle.exec_settings.specs.Search.{path_of}
use Rattle.exec_settings.specs.Dynamic.{sets_new_privileges, unit_filters}
use Rattle.exec_settings.specs.Filtered.{has_filter, is_filtered}

-- the program that is launched
abbrev pub program_path : Resolved → Site → Option Command → Option Path
program_path unit site command = option_and_then (λ one. path_of unit site one.program) command

unfoldable pub unit_program : Resolved → Site → Option Path
unit_program unit site = program_path unit site (unit_command unit)

-- the bounding set: the set of CapabilityBoundingSet=, without the capabilities that other settings take
abbrev pub unit_bounding : Resolved → Table → ℕ
unit_bounding unit table = left_of (bounding_of unit) (unit_filters unit table)

-- the ambient set: the set of AmbientCapabilities=, from which a version of systemd takes only what is in the bounding set
abbrev pub ambient_within : Option Version → ℕ → ℕ → ℕ
ambient_within systemd ambient bounding = cond (is_known systemd) (cut ambient bounding) ambient

abbrev pub unit_ambient : Resolved → Table → ℕ
unit_ambient unit table = ambient_within unit.systemd (ambient_of unit) (unit_bounding unit table)

-- a service with this uid keeps CAP_SETPCAP and CAP_SYS_ADMIN until its filters are installed
abbrev pub keeps_by : Resolved → FilterSettings → Table → ℕ → Bool
keeps_by unit settings table uid =
    is_keeping unit.systemd (is_filtered unit settings table) uid (may_give_up table settings.calls)

abbrev pub unit_keeps : Resolved → Table → ℕ → Bool
unit_keeps unit table uid = keeps_by unit (unit_filters unit table) table uid

-- NoNewPrivileges= is in effect for a service with this uid. A service whose command has the prefix `!` has the uid 0
abbrev pub new_privileges_by : Resolved → Bool → FilterSettings → Table → ℕ → ℕ → Bool
new_privileges_by unit is_set settings table uid ambient =
    is_in_effect_in unit.systemd is_set (has_filter settings table) (is_filtered unit settings table) uid ambient
    (keeps_by unit settings table uid)

abbrev pub unit_new_privileges : Resolved → Table → ℕ → Bool
unit_new_privileges unit table uid =
    new_privileges_by unit (sets_new_privileges unit) (unit_filters unit table) table uid (unit_ambient unit table)
