-- Examples of what some protections mount, by the tables of systemd 252 and 257.
use Rattle.std.proofs.Common.{◌≡◌, ℕ, Bool, true, false, Some, None, List, [], ◌∷◌, ◌++◌, refl, map, codes}
use Rattle.path_settings.specs.abs_path.Paths.{Path}
use Rattle.path_settings.specs.declared.keys.PathKey.{PathKey}
use Rattle.path_settings.specs.declared.keys.PathKey.TheVariants.{RuntimeDirectory, StateDirectory}
use Rattle.path_settings.specs.FolderWords.{shown_at}
use Rattle.path_settings.specs.declared.systemd.entries.MountEntry.{MountEntry}
use Rattle.path_settings.specs.declared.systemd.modes.MountMode.{MountMode}
use Rattle.path_settings.specs.declared.systemd.modes.MountMode.TheVariants.{Hidden, DisconnectedTmp, PrivateTmp, PrivateDevices, Devices}
use Rattle.path_settings.specs.declared.systemd.modes.MountMode.TheVariants.{PrivateSysfs, Sysfs, Procfs, ReadOnly, Tmpfs, Run}
use Rattle.path_settings.specs.declared.systemd.modes.MountMode.TheVariants.{ReadWriteImplicit, Node}
use Rattle.dropin_merge.specs.unit_names.declared.version.Version.TheVariants.{V252, V257}
use Rattle.mount_settings.specs.declared.protections.HomeProtection.TheVariants as home
use Rattle.mount_settings.specs.declared.protections.SystemProtection.{SystemProtection}
use Rattle.mount_settings.specs.declared.protections.SystemProtection.TheVariants as system
use Rattle.mount_settings.specs.declared.protections.Protections.{Protections}
use Rattle.mount_settings.specs.declared.protections.Switches.{Switches}
use Rattle.mount_settings.specs.declared.written.WrittenPath.{WrittenPath}
use Rattle.mount_settings.specs.systemd.Folders.{private_path}
use Rattle.mount_settings.specs.declared.systemd.keys.FurtherKeys.{FurtherKeys}
use Rattle.mount_settings.specs.declared.systemd.words.ControlGroups.TheVariants as groups
use Rattle.mount_settings.specs.declared.systemd.words.OwnTmp.TheVariants as tmp
use Rattle.mount_settings.specs.systemd.Keys.{no_keys}
use Rattle.mount_settings.specs.systemd.Mentions.{by_table}
use Rattle.mount_settings.specs.systemd.OwnMounts.{has_own_mounts}

abbrev said : List MountEntry → List (Path × MountMode)
said entries = map (λ one. (one.path, one.mode)) entries

abbrev below : List ℕ → List ℕ → Path
below folder name = folder ∷ name ∷ []

abbrev protections_with : SystemProtection → Bool → Bool → Protections
protections_with files tunables control = record {
  protect_system = files;
  protect_home = home.No;
  private_tmp = false;
  protect_kernel_tunables = tunables;
  protect_control_groups = control;
}

abbrev nothing : Protections
nothing = protections_with system.No false false

abbrev switches_with : Bool → Switches
switches_with devices = record {
  private_devices = devices;
  protect_kernel_modules = false;
  protect_kernel_logs = false;
  dynamic_user = false;
}

abbrev off : Switches
off = switches_with false

-- credentials of other services are hidden from each service that has mounts of its own
abbrev no_credentials : Path × MountMode
no_credentials = (below (codes "run") (codes "credentials"), Hidden)

-- ProtectSystem=strict leaves the homes writable too
strict : said (by_table V257 off (protections_with system.Strict false false) no_keys)
    ≡ ([], ReadOnly) ∷ (codes "proc" ∷ [], ReadWriteImplicit) ∷ (codes "sys" ∷ [], ReadWriteImplicit) ∷ (codes "dev" ∷ [], ReadWriteImplicit) ∷ (codes "home" ∷ [], ReadWriteImplicit)
    ∷ (below (codes "run") (codes "user"), ReadWriteImplicit) ∷ (codes "root" ∷ [], ReadWriteImplicit) ∷ no_credentials ∷ []
strict = refl

-- systemd 252 names the folders of the root that stand for folders of /usr
full_in_252 : said (by_table V252 off (protections_with system.Full false false) no_keys)
    ≡ (codes "usr" ∷ [], ReadOnly) ∷ (codes "boot" ∷ [], ReadOnly) ∷ (codes "efi" ∷ [], ReadOnly) ∷ (codes "lib" ∷ [], ReadOnly) ∷ (codes "lib64" ∷ [], ReadOnly)
    ∷ (codes "bin" ∷ [], ReadOnly) ∷ (codes "sbin" ∷ [], ReadOnly) ∷ (codes "etc" ∷ [], ReadOnly) ∷ no_credentials ∷ []
full_in_252 = refl

full_in_257 : said (by_table V257 off (protections_with system.Full false false) no_keys)
    ≡ (codes "usr" ∷ [], ReadOnly) ∷ (codes "boot" ∷ [], ReadOnly) ∷ (codes "efi" ∷ [], ReadOnly) ∷ (codes "etc" ∷ [], ReadOnly) ∷ no_credentials ∷ []
full_in_257 = refl

-- ProtectKernelTunables=. The flags of the mounts of /dev, /sys and /run are left in systemd 257
abbrev of_proc : List ℕ → MountMode → Path × MountMode
of_proc name mode = (below (codes "proc") name, mode)

abbrev api : Bool → List (Path × MountMode)
api is_left = (codes "proc" ∷ [], Procfs) ∷ (codes "dev" ∷ [], Devices is_left) ∷ (codes "sys" ∷ [], Sysfs is_left)
    ∷ (codes "run" ∷ [], Run is_left) ∷ []

abbrev of_tunables : List (Path × MountMode)
of_tunables =
    of_proc (codes "acpi") ReadOnly ∷ of_proc (codes "apm") ReadOnly ∷ of_proc (codes "asound") ReadOnly ∷ of_proc (codes "bus") ReadOnly
    ∷ of_proc (codes "fs") ReadOnly ∷ of_proc (codes "irq") ReadOnly ∷ of_proc (codes "latency_stats") ReadOnly
    ∷ of_proc (codes "mtrr") ReadOnly ∷ of_proc (codes "scsi") ReadOnly ∷ of_proc (codes "sys") ReadOnly
    ∷ of_proc (codes "sysrq-trigger") ReadOnly ∷ of_proc (codes "timer_stats") ReadOnly
    ∷ of_proc (codes "kallsyms") Hidden ∷ of_proc (codes "kcore") Hidden ∷ (codes "sys" ∷ [], ReadOnly)
    ∷ (codes "sys" ∷ below (codes "fs") (codes "bpf"), ReadOnly) ∷ (codes "sys" ∷ below (codes "kernel") (codes "debug"), ReadOnly)
    ∷ (codes "sys" ∷ below (codes "kernel") (codes "tracing"), ReadOnly)
    ∷ (codes "sys" ∷ below (codes "fs") (codes "cgroup"), ReadWriteImplicit)
    ∷ (codes "sys" ∷ below (codes "fs") (codes "selinux"), ReadWriteImplicit) ∷ []

abbrev tunables : Protections
tunables = protections_with system.No true false

abbrev own_network : FurtherKeys
own_network = record no_keys { own_network = true }

tunables_in_252 : said (by_table V252 off tunables no_keys) ≡ of_tunables ++ (api false ++ no_credentials ∷ [])
tunables_in_252 = refl

tunables_in_257 : said (by_table V257 off tunables no_keys) ≡ of_tunables ++ (api true ++ no_credentials ∷ [])
tunables_in_257 = refl

tunables_and_network : said (by_table V257 off tunables own_network)
    ≡ of_tunables ++ (api true ++ (codes "sys" ∷ [], PrivateSysfs) ∷ no_credentials ∷ [])
tunables_and_network = refl

-- PrivateDevices=: the pseudo-devices, and four folders
abbrev device : List ℕ → Path × MountMode
device name = (below (codes "dev") name, Node)

private_devices : said (by_table V252 (switches_with true) nothing no_keys)
    ≡ (codes "dev" ∷ [], PrivateDevices) ∷ device (codes "null") ∷ device (codes "zero") ∷ device (codes "full")
    ∷ device (codes "random") ∷ device (codes "urandom") ∷ device (codes "tty") ∷ device (codes "ptmx") ∷ device (codes "pts")
    ∷ device (codes "shm") ∷ device (codes "mqueue") ∷ device (codes "hugepages") ∷ no_credentials ∷ []
private_devices = refl

-- ProtectControlGroups=private leaves the control groups writable
abbrev private_groups : FurtherKeys
private_groups = record no_keys { control_groups = groups.Private }

control_groups_private : said (by_table V257 off (protections_with system.No false true) private_groups)
    ≡ (codes "sys" ∷ below (codes "fs") (codes "cgroup"), ReadWriteImplicit) ∷ (api true ++ no_credentials ∷ [])
control_groups_private = refl

-- PrivateTmp=yes, and DynamicUser= beside PrivateTmp=no: systemd 257 disconnects the folders if the key is not on
abbrev temporary : Protections
temporary = record nothing { private_tmp = true }

abbrev at_tmp : MountMode → List (Path × MountMode)
at_tmp mode = (codes "tmp" ∷ [], mode) ∷ (below (codes "var") (codes "tmp"), mode) ∷ no_credentials ∷ []

tmp_by_key : said (by_table V257 off temporary (record no_keys { own_tmp = tmp.Yes })) ≡ at_tmp PrivateTmp
tmp_by_key = refl

tmp_of_users : said (by_table V257 off temporary no_keys) ≡ at_tmp DisconnectedTmp
tmp_of_users = refl

tmp_in_252 : said (by_table V252 off temporary no_keys) ≡ at_tmp PrivateTmp
tmp_in_252 = refl

-- ProtectHome=tmpfs is read-only in systemd 257
abbrev empty_homes : Protections
empty_homes = record nothing { protect_home = home.Tmpfs }

abbrev at_homes : MountMode → List (Path × MountMode)
at_homes mode = (codes "home" ∷ [], mode) ∷ (below (codes "run") (codes "user"), mode) ∷ (codes "root" ∷ [], mode) ∷ no_credentials ∷ []

homes_in_252 : said (by_table V252 off empty_homes no_keys) ≡ at_homes (Tmpfs false false false)
homes_in_252 = refl

homes_in_257 : said (by_table V257 off empty_homes no_keys) ≡ at_homes (Tmpfs true false false)
homes_in_257 = refl

-- ProtectHostname= is no reason for mounts; in systemd 257 a network is one
hostname_alone : has_own_mounts V257 off nothing (record no_keys { protect_hostname = true }) [] ≡ false
hostname_alone = refl

network_in_257 : has_own_mounts V257 off nothing own_network [] ≡ true
network_in_257 = refl

network_in_252 : has_own_mounts V252 off nothing own_network [] ≡ false
network_in_252 = refl

-- with a dynamic user a folder below /var/lib may be below /var/lib/private; a folder below /run is not, unless it is kept
abbrev dynamic : Switches
dynamic = record off { dynamic_user = true }

abbrev folder : PathKey → Path → WrittenPath
folder key path = record { key = key; mention = shown_at false path path }

abbrev state_web : Path
state_web = codes "var" ∷ below (codes "lib") (codes "web")

private_state : private_path dynamic no_keys (folder StateDirectory state_web)
    ≡ Some (codes "var" ∷ codes "lib" ∷ below (codes "private") (codes "web"))
private_state = refl

no_dynamic_user : private_path off no_keys (folder StateDirectory state_web) ≡ None
no_dynamic_user = refl

runtime_is_not_private : private_path dynamic no_keys (folder RuntimeDirectory (below (codes "run") (codes "web"))) ≡ None
runtime_is_not_private = refl

kept_runtime : private_path dynamic (record no_keys { keeps_runtime = true }) (folder RuntimeDirectory (below (codes "run") (codes "web")))
    ≡ Some (codes "run" ∷ below (codes "private") (codes "web"))
kept_runtime = refl
