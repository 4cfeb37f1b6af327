-- Capabilities that the settings of a unit take from its bounding set (systemd.exec(5), Sandboxing; capabilities(7)).
use Rattle.std.specs.Prelude.{ℕ, Bool, cond}
use Rattle.cred_settings.specs.linux_numbers.Capabilities.{cap_sys_module, cap_sys_rawio, cap_sys_time, cap_mknod, cap_syslog}
use Rattle.cred_settings.specs.linux_numbers.Capabilities.{cap_wake_alarm}
use Rattle.cred_settings.specs.cap_sets.Sets.{minus, none, single, union}
use Rattle.filter_settings.specs.declared.filter_rules.settings.FilterSettings.{FilterSettings}

abbrev pub only_if : Bool → ℕ → ℕ
only_if on set = cond on set none

-- ProtectClock= takes CAP_SYS_TIME and CAP_WAKE_ALARM
abbrev pub clock_caps : ℕ
clock_caps = union (union none (single cap_sys_time)) (single cap_wake_alarm)

-- PrivateDevices= takes CAP_MKNOD and CAP_SYS_RAWIO
abbrev pub device_caps : ℕ
device_caps = union (union none (single cap_mknod)) (single cap_sys_rawio)

-- ProtectKernelModules= takes CAP_SYS_MODULE, ProtectKernelLogs= takes CAP_SYSLOG
abbrev pub module_caps : ℕ
module_caps = union none (single cap_sys_module)

abbrev pub log_caps : ℕ
log_caps = union none (single cap_syslog)

-- all capabilities that the settings take
unfoldable pub taken_caps : FilterSettings → ℕ
taken_caps settings =
    union (union (only_if settings.protect_clock clock_caps) (only_if settings.private_devices device_caps))
    (union (only_if settings.protect_kernel_modules module_caps) (only_if settings.protect_kernel_logs log_caps))

-- the capabilities that are left of a bounding set
abbrev pub left_of : ℕ → FilterSettings → ℕ
left_of bounding settings = minus bounding (taken_caps settings)
