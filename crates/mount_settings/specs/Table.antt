-- The paths that each protection changes (systemd.exec(5), Sandboxing), in the order of the manual page.
use Rattle.std.specs.Prelude.{ℕ, Bool, true, false, if◌then◌else◌, codes, List, [], ◌∷◌, ◌++◌, map, Option, Some, None}
use denote.Ref.{Bor}
use Rattle.path_settings.specs.declared.mentions.Mention.{Mention}
use Rattle.mount_settings.specs.declared.protections.SystemProtection.{SystemProtection}
use Rattle.mount_settings.specs.declared.protections.SystemProtection.TheVariants.{No, Yes, Full, Strict}
use Rattle.mount_settings.specs.declared.protections.HomeProtection.{HomeProtection}
use Rattle.mount_settings.specs.declared.protections.HomeProtection.TheVariants.{No as HomeNo, Yes as HomeYes, ReadOnly as HomeReadOnly}
use Rattle.mount_settings.specs.declared.protections.HomeProtection.TheVariants.{Tmpfs}
use Rattle.mount_settings.specs.declared.effects.Effect.{Effect}
use Rattle.mount_settings.specs.declared.effects.Effect.TheVariants.{ReadOnly, Writable, NotExecutable, Hidden, Empty, Shown}
use Rattle.mount_settings.specs.Effects.{brings}

-- ProtectSystem=: /usr and the boot loader directories are read-only; with `full` /etc too; with `strict` all but /dev, /proc and /sys
abbrev pub by_system : SystemProtection → List Mention
by_system No = []
by_system Yes = brings ReadOnly (codes "/usr" ∷ codes "/boot" ∷ codes "/efi" ∷ [])
by_system Full = brings ReadOnly (codes "/usr" ∷ codes "/boot" ∷ codes "/efi" ∷ codes "/etc" ∷ [])
by_system Strict = brings ReadOnly (codes "/" ∷ []) ++ brings Writable (codes "/dev" ∷ codes "/proc" ∷ codes "/sys" ∷ [])

abbrev pub homes : List (List ℕ)
homes = codes "/home" ∷ codes "/root" ∷ codes "/run/user" ∷ []

-- ProtectHome=: the homes are inaccessible, read-only, or empty and read-only
abbrev pub home_effect : HomeProtection → Option Effect
home_effect HomeNo = None
home_effect HomeYes = Some Hidden
home_effect HomeReadOnly = Some ReadOnly
home_effect Tmpfs = Some (Empty true)

abbrev pub at_homes : Option Effect → List Mention
at_homes None = []
at_homes (Some effect) = brings effect homes

abbrev pub by_home : HomeProtection → List Mention
by_home home = at_homes (home_effect home)

-- the mentions of an effect at these paths, if it is on
abbrev pub when : Bool → Effect → List (List ℕ) → List Mention
when on effect texts = if on then brings effect texts else []

-- one group of a table: whether it is on, its effect and its paths
abbrev pub by_group : Bool × Effect × Bor (List (Bor (List ℕ))) → List Mention
by_group group = when group.0 group.1 (map (λ text. text.now) group.2.now)

-- PrivateTmp=: the service has its own /tmp and /var/tmp
abbrev pub by_tmp : Bool → List Mention
by_tmp on = when on (Empty false) (codes "/tmp" ∷ codes "/var/tmp" ∷ [])

abbrev pub devices : List (List ℕ)
devices = codes "/dev" ∷ []

abbrev pub harmless_devices : List (List ℕ)
harmless_devices = codes "/dev/null" ∷ codes "/dev/zero" ∷ codes "/dev/full" ∷ codes "/dev/random" ∷ codes "/dev/urandom" ∷ codes
    "/dev/tty" ∷ []

-- PrivateDevices=: /dev has only pseudo-devices, and nothing in it can be executed
abbrev pub by_devices : Bool → List Mention
by_devices on = when on (Empty true) devices ++ (when on NotExecutable devices ++ when on Shown harmless_devices)

abbrev pub tunables : List (List ℕ)
tunables =
    codes "/proc/sys" ∷ codes "/sys" ∷ codes "/proc/sysrq-trigger" ∷ codes "/proc/latency_stats" ∷ codes "/proc/acpi"
    ∷ codes "/proc/timer_stats" ∷ codes "/proc/fs" ∷ codes "/proc/irq" ∷ []

abbrev pub memory : List (List ℕ)
memory = codes "/proc/kallsyms" ∷ codes "/proc/kcore" ∷ []

-- ProtectKernelTunables=: kernel variables are read-only, and /proc/kallsyms and /proc/kcore are inaccessible
abbrev pub by_tunables : Bool → List Mention
by_tunables on = when on ReadOnly tunables ++ when on Hidden memory

-- ProtectKernelModules=: /usr/lib/modules is inaccessible
abbrev pub by_modules : Bool → List Mention
by_modules on = when on Hidden (codes "/usr/lib/modules" ∷ [])

-- ProtectKernelLogs=: /proc/kmsg and /dev/kmsg are inaccessible
abbrev pub by_logs : Bool → List Mention
by_logs on = when on Hidden (codes "/proc/kmsg" ∷ codes "/dev/kmsg" ∷ [])

-- ProtectControlGroups=: the control groups hierarchy below /sys/fs/cgroup is read-only
abbrev pub by_control_groups : Bool → List Mention
by_control_groups on = when on ReadOnly (codes "/sys/fs/cgroup" ∷ [])
