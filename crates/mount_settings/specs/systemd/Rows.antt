-- The paths that each protection changes in systemd 252 and 257 (systemd.exec(5), Sandboxing).
use Rattle.std.specs.Prelude.{ℕ, ◌&&◌, ◌||◌, not, Bool, true, false, codes, List, [], ◌∷◌, ◌++◌, map, Option, Some, if◌then◌else◌}
use denote.Ref.{Bor}
use Rattle.std.specs.List.{filter_map}
use Rattle.std.specs.Option.{option_map}
use Rattle.path_settings.specs.SettingPaths.{setting_path}
use Rattle.path_settings.specs.declared.systemd.entries.MountEntry.{MountEntry}
use Rattle.path_settings.specs.declared.systemd.modes.MountMode.{MountMode}
use Rattle.path_settings.specs.declared.systemd.modes.MountMode.TheVariants.{Hidden, DisconnectedTmp, PrivateTmp, PrivateDevices, Devices}
use Rattle.path_settings.specs.declared.systemd.modes.MountMode.TheVariants.{PrivateSysfs, Sysfs, Procfs, ReadOnly, Tmpfs, Run}
use Rattle.path_settings.specs.declared.systemd.modes.MountMode.TheVariants.{ReadWriteImplicit, Node}
use Rattle.dropin_merge.specs.unit_names.Versions.{is_257}
use Rattle.dropin_merge.specs.unit_names.declared.version.Version.{Version}
use Rattle.mount_settings.specs.declared.protections.SystemProtection.{SystemProtection}
use Rattle.mount_settings.specs.declared.protections.SystemProtection.TheVariants as system
use Rattle.mount_settings.specs.declared.protections.HomeProtection.{HomeProtection}
use Rattle.mount_settings.specs.declared.protections.HomeProtection.TheVariants as home
use Rattle.mount_settings.specs.declared.protections.Protections.{Protections}
use Rattle.mount_settings.specs.declared.protections.Switches.{Switches}
use Rattle.mount_settings.specs.declared.systemd.keys.FurtherKeys.{FurtherKeys}
use Rattle.mount_settings.specs.declared.systemd.rows.RowsOn.{RowsOn}
use Rattle.mount_settings.specs.systemd.Words.{is_private, is_plain_tmp}

-- systemd 257 reads the unit; the only other version is 252
abbrev pub is_newer : Version → Bool
is_newer version = is_257 (Some version)

-- ProtectSystem= is `yes` or `full`
abbrev pub reads_files : SystemProtection → Bool
reads_files system.No = false
reads_files system.Yes = true
reads_files system.Full = true
reads_files system.Strict = false

abbrev pub is_full : SystemProtection → Bool
is_full system.Full = true
is_full _ = false

abbrev pub is_strict : SystemProtection → Bool
is_strict system.Strict = true
is_strict _ = false

abbrev pub hides_homes : HomeProtection → Bool
hides_homes home.Yes = true
hides_homes _ = false

abbrev pub reads_homes : HomeProtection → Bool
reads_homes home.ReadOnly = true
reads_homes _ = false

abbrev pub empties_homes : HomeProtection → Bool
empties_homes home.Tmpfs = true
empties_homes _ = false

-- the service has its own mounts of the kernel's file systems and of /run. Only systemd 257 has PrivatePIDs=
abbrev pub has_api : Version → Protections → FurtherKeys → Bool
has_api version protections keys =
    protections.protect_control_groups || (protections.protect_kernel_tunables || (keys.protect_proc ||
    (keys.proc_subset || (keys.mount_api_vfs || (is_newer version && keys.private_pids)))))

-- in systemd 257 a service with its own network has its own mount of /sys, which shows that network
abbrev pub has_own_sysfs : Version → FurtherKeys → Bool
has_own_sysfs version keys = is_newer version && keys.own_network

-- systemd 257 disconnects /tmp and /var/tmp, unless the key PrivateTmp= itself is on
abbrev pub disconnects_tmp : Version → FurtherKeys → Bool
disconnects_tmp version keys = is_newer version && not (is_plain_tmp keys.own_tmp)

-- the rows of the table that are on
abbrev pub rows_on : Version → Switches → Protections → FurtherKeys → RowsOn
rows_on version switches protections keys = record {
  files = reads_files protections.protect_system;
  merged = not (is_newer version) && reads_files protections.protect_system;
  configuration = is_full protections.protect_system;
  all = is_strict protections.protect_system;
  homes_hidden = hides_homes protections.protect_home;
  homes_read = reads_homes protections.protect_home;
  homes_fresh = not (is_newer version) && empties_homes protections.protect_home;
  homes_empty = is_newer version && empties_homes protections.protect_home;
  temporary = protections.private_tmp && not (disconnects_tmp version keys);
  disconnected = protections.private_tmp && disconnects_tmp version keys;
  devices = switches.private_devices;
  tunables = protections.protect_kernel_tunables;
  modules = switches.protect_kernel_modules;
  merged_modules = not (is_newer version) && switches.protect_kernel_modules;
  logs = switches.protect_kernel_logs;
  groups_read = protections.protect_control_groups && not (is_private keys.control_groups);
  groups_left = is_private keys.control_groups;
  api = has_api version protections keys;
  is_left = is_newer version;
  sysfs = has_own_sysfs version keys;
  hostname = keys.protect_hostname;
  credentials = not keys.credentials;
}

-- a row of the table: whether it is on, its mode and its paths
abbrev pub Row : Type 0
Row = Bool × MountMode × List (List ℕ)

-- the entry of a mode at a path is optional, and a text that is no path gives no entry
abbrev pub entry_at : MountMode → List ℕ → Option MountEntry
entry_at mode text = option_map (λ path. record { path = path; mode = mode; optional = true }) (setting_path text)

abbrev pub asks_for : MountMode → List (List ℕ) → List MountEntry
asks_for mode texts = filter_map (entry_at mode) texts

abbrev pub by_row : Row → List MountEntry
by_row row = if row.0 then asks_for row.1 row.2 else []

-- the same of a row that is lent
abbrev pub by_lent : Bool × MountMode × Bor (List (Bor (List ℕ))) → List MountEntry
by_lent row = by_row (row.0, row.1, map (λ text. text.now) row.2.now)

abbrev pub homes : List (List ℕ)
homes = codes "/home" ∷ codes "/run/user" ∷ codes "/root" ∷ []

-- ProtectSystem=: /usr and the boot loader directories are read-only, in systemd 252 also /lib, /lib64, /bin and /sbin, which stand for
-- folders of /usr; with `full` /etc too; with `strict` all but /proc, /sys, /dev and the homes
abbrev pub system_rows : RowsOn → List Row
system_rows on =
    (on.files, ReadOnly, codes "/usr" ∷ codes "/boot" ∷ codes "/efi" ∷ [])
    ∷ (on.merged, ReadOnly, codes "/lib" ∷ codes "/lib64" ∷ codes "/bin" ∷ codes "/sbin" ∷ [])
    ∷ (on.configuration, ReadOnly, codes "/etc" ∷ [])
    ∷ (on.all, ReadOnly, codes "/" ∷ [])
    ∷ (
      on.all,
      ReadWriteImplicit,
      codes "/proc" ∷ codes "/sys" ∷ codes "/dev" ∷ codes "/home" ∷ codes "/run/user" ∷ codes "/root" ∷ [],
    )
    ∷ []

-- ProtectHome=: the homes are inaccessible, read-only, or empty; systemd 257 makes the empty homes read-only
abbrev pub home_rows : RowsOn → List Row
home_rows on =
    (on.homes_hidden, Hidden, homes) ∷ (on.homes_read, ReadOnly, homes) ∷ (on.homes_fresh, Tmpfs false false false, homes)
    ∷ (on.homes_empty, Tmpfs true false false, homes) ∷ []

-- PrivateDevices=: pseudo-devices, and the folders of terminals, of shared memory, of message queues and of huge pages
abbrev pub devices_left : List (List ℕ)
devices_left =
    codes "/dev/null" ∷ codes "/dev/zero" ∷ codes "/dev/full" ∷ codes "/dev/random" ∷ codes "/dev/urandom" ∷ codes "/dev/tty"
    ∷ codes "/dev/ptmx" ∷ codes "/dev/pts" ∷ codes "/dev/shm" ∷ codes "/dev/mqueue" ∷ codes "/dev/hugepages" ∷ []

-- ProtectKernelTunables=: kernel variables below /proc
abbrev pub variables : List (List ℕ)
variables =
    codes "/proc/acpi" ∷ codes "/proc/apm" ∷ codes "/proc/asound" ∷ codes "/proc/bus" ∷ codes "/proc/fs" ∷ codes "/proc/irq"
    ∷ codes "/proc/latency_stats" ∷ codes "/proc/mtrr" ∷ codes "/proc/scsi" ∷ codes "/proc/sys" ∷ codes "/proc/sysrq-trigger"
    ∷ codes "/proc/timer_stats" ∷ []

-- PrivateTmp=: the service has its own folders for temporary files
abbrev pub tmp_rows : RowsOn → List Row
tmp_rows on =
    (on.temporary, PrivateTmp, codes "/tmp" ∷ codes "/var/tmp" ∷ [])
    ∷ (on.disconnected, DisconnectedTmp, codes "/tmp" ∷ codes "/var/tmp" ∷ []) ∷ []

-- PrivateDevices=, then the keys that protect the kernel
abbrev pub kernel_rows : RowsOn → List Row
kernel_rows on =
    (on.devices, PrivateDevices, codes "/dev" ∷ [])
    ∷ (on.devices, Node, devices_left)
    ∷ (on.tunables, ReadOnly, variables)
    ∷ (on.tunables, Hidden, codes "/proc/kallsyms" ∷ codes "/proc/kcore" ∷ [])
    ∷ (on.tunables, ReadOnly, codes "/sys" ∷ codes "/sys/fs/bpf" ∷ codes "/sys/kernel/debug" ∷ codes "/sys/kernel/tracing" ∷ [])
    ∷ (on.tunables, ReadWriteImplicit, codes "/sys/fs/cgroup" ∷ codes "/sys/fs/selinux" ∷ [])
    ∷ (on.modules, Hidden, codes "/usr/lib/modules" ∷ [])
    ∷ (on.merged_modules, Hidden, codes "/lib/modules" ∷ [])
    ∷ (on.logs, Hidden, codes "/proc/kmsg" ∷ codes "/dev/kmsg" ∷ [])
    ∷ []

-- ProtectControlGroups=: the hierarchy is read-only; with `private` the service has its own, which is writable
abbrev pub group_rows : RowsOn → List Row
group_rows on =
    (on.groups_read, ReadOnly, codes "/sys/fs/cgroup" ∷ []) ∷ (on.groups_left, ReadWriteImplicit, codes "/sys/fs/cgroup" ∷ []) ∷ []

-- the service's own mounts of the kernel's file systems and of /run; ProtectHostname=; the credentials of other services
abbrev pub further_rows : RowsOn → List Row
further_rows on =
    (on.api, Procfs, codes "/proc" ∷ [])
    ∷ (on.api, Devices on.is_left, codes "/dev" ∷ [])
    ∷ (on.api, Sysfs on.is_left, codes "/sys" ∷ [])
    ∷ (on.api, Run on.is_left, codes "/run" ∷ [])
    ∷ (on.sysfs, PrivateSysfs, codes "/sys" ∷ [])
    ∷ (on.hostname, ReadOnly, codes "/proc/sys/kernel/hostname" ∷ codes "/proc/sys/kernel/domainname" ∷ [])
    ∷ (on.credentials, Hidden, codes "/run/credentials" ∷ [])
    ∷ []

abbrev pub table : RowsOn → List Row
table on = system_rows on ++ (home_rows on ++ (tmp_rows on ++ (kernel_rows on ++ (group_rows on ++ further_rows on))))
