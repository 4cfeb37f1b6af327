-- Whether a service has mounts of its own (systemd.exec(5), Sandboxing). Without them nothing is implied: folders and the host name are
-- as on the host.
use Rattle.std.specs.Prelude.{◌&&◌, ◌||◌, not, Bool, List}
use Rattle.std.specs.List.{list_any}
use Rattle.path_settings.specs.Keys.{is_implied}
use Rattle.dropin_merge.specs.unit_names.declared.version.Version.{Version}
use Rattle.mount_settings.specs.declared.written.WrittenPath.{WrittenPath}
use Rattle.mount_settings.specs.declared.protections.Protections.{Protections}
use Rattle.mount_settings.specs.declared.protections.Switches.{Switches}
use Rattle.mount_settings.specs.declared.systemd.keys.FurtherKeys.{FurtherKeys}
use Rattle.mount_settings.specs.systemd.Words.{is_yes, is_unset}
use Rattle.mount_settings.specs.systemd.Rows.{is_newer, reads_files, is_strict, hides_homes, reads_homes, empties_homes}

-- some written path is not a folder
abbrev pub writes_paths : List WrittenPath → Bool
writes_paths paths = list_any (λ path. not (is_implied path.key)) paths

-- a protection of files or devices is on. DynamicUser= implies ProtectSystem=strict
abbrev pub protects_files : Switches → Protections → Bool
protects_files switches protections =
    reads_files protections.protect_system || (is_strict protections.protect_system ||
    (hides_homes protections.protect_home || (reads_homes protections.protect_home ||
    (empties_homes protections.protect_home || (protections.private_tmp || switches.private_devices)))))

-- a protection of the kernel is on
abbrev pub protects_kernel : Switches → Protections → Bool
protects_kernel switches protections =
    protections.protect_kernel_tunables || (switches.protect_kernel_modules || (switches.protect_kernel_logs ||
    protections.protect_control_groups))

-- another key asks for mounts. systemd 257 adds PrivatePIDs= and BindLogSockets=; it also mounts for a service with its own network, if
-- PrivateMounts= is unset
abbrev pub asks_newer : FurtherKeys → Bool
asks_newer keys = keys.private_pids || (keys.bind_log_sockets || (keys.own_network && is_unset keys.private_mounts))

abbrev pub asks_mounts : Version → FurtherKeys → Bool
asks_mounts version keys =
    keys.protect_proc || (keys.proc_subset || (is_yes keys.private_mounts || (keys.private_ipc || (keys.log_namespace ||
    (is_newer version && asks_newer keys)))))

abbrev pub has_own_mounts : Version → Switches → Protections → FurtherKeys → List WrittenPath → Bool
has_own_mounts version switches protections keys paths =
    writes_paths paths || (protects_files switches protections || (protects_kernel switches protections || asks_mounts version keys))
