-- How bad a service is by what one test looks at.
use Rattle.std.specs.Prelude.{ℕ, ◌==◌, not, cond, Bool}
use Rattle.exec_settings.specs.cap_sets.Sets.{none}
use Rattle.exec_settings.specs.mount_settings.declared.protections.SystemProtection.{SystemProtection}
use Rattle.exec_settings.specs.mount_settings.declared.protections.SystemProtection.TheVariants as system
use Rattle.exec_settings.specs.mount_settings.declared.protections.HomeProtection.{HomeProtection}
use Rattle.exec_settings.specs.mount_settings.declared.protections.HomeProtection.TheVariants as home
use Rattle.exposure_score.specs.declared.service_facts.sandbox.Sandbox.{Sandbox}
use Rattle.exposure_score.specs.declared.service_facts.lines.Protection.{Protection}
use Rattle.exposure_score.specs.declared.service_facts.lines.Protection.TheVariants.{PrivateDevices, PrivateTmp, ProtectClock}
use Rattle.exposure_score.specs.declared.service_facts.lines.Protection.TheVariants.{ProtectControlGroups, ProtectHostname}
use Rattle.exposure_score.specs.declared.service_facts.lines.Protection.TheVariants.{ProtectKernelLogs, ProtectKernelModules}
use Rattle.exposure_score.specs.declared.service_facts.lines.Protection.TheVariants.{ProtectKernelTunables, LockPersonality}
use Rattle.exposure_score.specs.declared.service_facts.lines.Protection.TheVariants.{MemoryDenyWriteExecute, RestrictRealtime}
use Rattle.exposure_score.specs.declared.service_facts.lines.Protection.TheVariants.{RestrictSuidSgid}

-- 1 if true, 0 if false
abbrev pub one_if : Bool → ℕ
one_if bad = cond bad 1 0

-- the protection is on
abbrev pub is_on : Sandbox → Protection → Bool
is_on sandbox PrivateDevices = sandbox.filters.private_devices
is_on sandbox PrivateTmp = sandbox.protections.private_tmp
is_on sandbox ProtectClock = sandbox.filters.protect_clock
is_on sandbox ProtectControlGroups = sandbox.protections.protect_control_groups
is_on sandbox ProtectHostname = sandbox.filters.protect_hostname
is_on sandbox ProtectKernelLogs = sandbox.filters.protect_kernel_logs
is_on sandbox ProtectKernelModules = sandbox.filters.protect_kernel_modules
is_on sandbox ProtectKernelTunables = sandbox.protections.protect_kernel_tunables
is_on sandbox LockPersonality = sandbox.filters.lock_personality
is_on sandbox MemoryDenyWriteExecute = sandbox.filters.memory_deny_write_execute
is_on sandbox RestrictRealtime = sandbox.filters.restrict_realtime
is_on sandbox RestrictSuidSgid = sandbox.filters.restrict_suid_sgid

-- ProtectSystem=
abbrev pub system_badness : SystemProtection → ℕ
system_badness system.No = 10
system_badness system.Yes = 8
system_badness system.Full = 3
system_badness system.Strict = 0

-- ProtectHome=
abbrev pub home_badness : HomeProtection → ℕ
home_badness home.No = 10
home_badness home.ReadOnly = 5
home_badness home.Tmpfs = 1
home_badness home.Yes = 0

abbrev pub has_ambient : Sandbox → Bool
has_ambient sandbox = not (sandbox.ambient == none)
