-- The keys of `[Service]` that are judged, each with its meaning (systemd.exec(5), systemd.service(5)).
use Rattle.std.specs.Prelude.{ℕ, ◌&&◌, ◌||◌, Bool, true, codes, List, [], ◌∷◌, map, Option, Some, None}
use Rattle.std.specs.List.{list_any, list_all}
use Rattle.std.specs.Ordering.{is_lt, nat_cmp}
use Rattle.std.specs.Cmp.Lexicographic.{slice_cmp}
use Rattle.std.specs.Str.{bytes_eq}
use Rattle.mount_settings.specs.path_settings.declared.keys.PathKey.TheVariants as path
use Rattle.mount_settings.specs.path_settings.Keys.{names_of, path_keys}
use Rattle.mount_settings.specs.Assigned.{dialect_of}
use Rattle.mount_settings.specs.unit_names.declared.version.Version.{Version}
use Rattle.mount_settings.specs.unit_names.Versions.{is_known}
use Rattle.exec_settings.specs.declared.keys.Meaning.{Meaning}
use Rattle.exec_settings.specs.declared.keys.Meaning.TheVariants.{Command, Credentials, Filter, Protection, Path, Place, Refused}

-- the keys of the base profile, in byte order
abbrev pub base_keys : List (List ℕ × Meaning)
base_keys =
    (codes "AmbientCapabilities", Credentials) ∷
    (codes "BindPaths", Place path.BindPaths) ∷
    (codes "BindReadOnlyPaths", Place path.BindReadOnlyPaths) ∷
    (codes "CacheDirectory", Path) ∷
    (codes "CapabilityBoundingSet", Credentials) ∷
    (codes "DynamicUser", Credentials) ∷
    (codes "ExecPaths", Path) ∷
    (codes "ExecStart", Command) ∷
    (codes "ExtensionDirectories", Refused) ∷
    (codes "ExtensionImages", Refused) ∷
    (codes "Group", Credentials) ∷
    (codes "InaccessiblePaths", Place path.InaccessiblePaths) ∷
    (codes "LockPersonality", Filter) ∷
    (codes "LogsDirectory", Path) ∷
    (codes "MemoryDenyWriteExecute", Filter) ∷
    (codes "MountImages", Refused) ∷
    (codes "NoExecPaths", Path) ∷
    (codes "NoNewPrivileges", Credentials) ∷
    (codes "PrivateDevices", Protection) ∷
    (codes "PrivateTmp", Protection) ∷
    (codes "PrivateUsers", Refused) ∷
    (codes "ProtectClock", Protection) ∷
    (codes "ProtectControlGroups", Protection) ∷
    (codes "ProtectHome", Protection) ∷
    (codes "ProtectHostname", Protection) ∷
    (codes "ProtectKernelLogs", Protection) ∷
    (codes "ProtectKernelModules", Protection) ∷
    (codes "ProtectKernelTunables", Protection) ∷
    (codes "ProtectSystem", Protection) ∷
    (codes "ReadOnlyPaths", Path) ∷
    (codes "ReadWritePaths", Path) ∷
    (codes "RestrictAddressFamilies", Filter) ∷
    (codes "RestrictNamespaces", Filter) ∷
    (codes "RestrictRealtime", Filter) ∷
    (codes "RestrictSUIDSGID", Filter) ∷
    (codes "RootDirectory", Refused) ∷
    (codes "RootImage", Refused) ∷
    (codes "RuntimeDirectory", Path) ∷
    (codes "SecureBits", Refused) ∷
    (codes "StateDirectory", Path) ∷
    (codes "SupplementaryGroups", Credentials) ∷
    (codes "SystemCallArchitectures", Filter) ∷
    (codes "SystemCallErrorNumber", Filter) ∷
    (codes "SystemCallFilter", Filter) ∷
    (codes "TemporaryFileSystem", Place path.TemporaryFileSystem) ∷
    (codes "User", Credentials) ∷
    []

-- the keys of a known systemd: it also reads the former names of three keys, and notes three keys without judging them
abbrev pub known_keys : List (List ℕ × Meaning)
known_keys =
    (codes "AmbientCapabilities", Credentials) ∷
    (codes "BindPaths", Place path.BindPaths) ∷
    (codes "BindReadOnlyPaths", Place path.BindReadOnlyPaths) ∷
    (codes "CacheDirectory", Path) ∷
    (codes "CapabilityBoundingSet", Credentials) ∷
    (codes "ConfigurationDirectory", Path) ∷
    (codes "DynamicUser", Credentials) ∷
    (codes "ExecPaths", Path) ∷
    (codes "ExecStart", Command) ∷
    (codes "ExtensionDirectories", Refused) ∷
    (codes "ExtensionImages", Refused) ∷
    (codes "Group", Credentials) ∷
    (codes "InaccessibleDirectories", Path) ∷
    (codes "InaccessiblePaths", Place path.InaccessiblePaths) ∷
    (codes "LockPersonality", Filter) ∷
    (codes "LogsDirectory", Path) ∷
    (codes "MemoryDenyWriteExecute", Filter) ∷
    (codes "MountImages", Refused) ∷
    (codes "NoExecPaths", Path) ∷
    (codes "NoNewPrivileges", Credentials) ∷
    (codes "PrivateDevices", Protection) ∷
    (codes "PrivateTmp", Protection) ∷
    (codes "ProtectClock", Protection) ∷
    (codes "ProtectControlGroups", Protection) ∷
    (codes "ProtectHome", Protection) ∷
    (codes "ProtectHostname", Protection) ∷
    (codes "ProtectKernelLogs", Protection) ∷
    (codes "ProtectKernelModules", Protection) ∷
    (codes "ProtectKernelTunables", Protection) ∷
    (codes "ProtectSystem", Protection) ∷
    (codes "ReadOnlyDirectories", Path) ∷
    (codes "ReadOnlyPaths", Path) ∷
    (codes "ReadWriteDirectories", Path) ∷
    (codes "ReadWritePaths", Path) ∷
    (codes "RestrictAddressFamilies", Filter) ∷
    (codes "RestrictNamespaces", Filter) ∷
    (codes "RestrictRealtime", Filter) ∷
    (codes "RestrictSUIDSGID", Filter) ∷
    (codes "RootDirectory", Refused) ∷
    (codes "RootImage", Refused) ∷
    (codes "RuntimeDirectory", Path) ∷
    (codes "StateDirectory", Path) ∷
    (codes "SupplementaryGroups", Credentials) ∷
    (codes "SystemCallErrorNumber", Filter) ∷
    (codes "SystemCallFilter", Filter) ∷
    (codes "TemporaryFileSystem", Place path.TemporaryFileSystem) ∷
    (codes "User", Credentials) ∷
    []

unfoldable pub keys : Option Version → List (List ℕ × Meaning)
keys None = base_keys
keys (Some version) = known_keys

-- the key is a setting here, or refuses the unit
abbrev pub is_judged : Option Version → List ℕ → Bool
is_judged systemd key = list_any (λ row. bytes_eq row.0 key) (keys systemd)

-- the keys of a known systemd that are noted, and still read for whether they are set: they matter to the files that the service finds,
-- to NoNewPrivileges=, to the personality, and to the folders in which its program is looked up
abbrev pub noted_keys : List (List ℕ)
noted_keys =
    codes "BindLogSockets" ∷
    codes "ExecSearchPath" ∷
    codes "ImportCredential" ∷
    codes "LoadCredential" ∷
    codes "LoadCredentialEncrypted" ∷
    codes "LogNamespace" ∷
    codes "MountAPIVFS" ∷
    codes "NetworkNamespacePath" ∷
    codes "Personality" ∷
    codes "PrivateIPC" ∷
    codes "PrivateMounts" ∷
    codes "PrivateNetwork" ∷
    codes "PrivatePIDs" ∷
    codes "ProcSubset" ∷
    codes "ProtectProc" ∷
    codes "RuntimeDirectoryPreserve" ∷
    codes "SetCredential" ∷
    codes "SetCredentialEncrypted" ∷
    codes "SystemCallArchitectures" ∷
    codes "SystemCallLog" ∷
    []

-- the assignments to the key matter to the service: the key is judged, or it is noted and still read
abbrev pub is_read : Option Version → List ℕ → Bool
is_read systemd key = is_judged systemd key || (is_known systemd && list_any (λ name. bytes_eq name key) noted_keys)

-- each key precedes the next one in byte order
abbrev pub ascend : List (List ℕ) → Bool
ascend [] = true
ascend (name ∷ []) = true
ascend (name ∷ next ∷ names) = is_lt (slice_cmp nat_cmp name next) && ascend (next ∷ names)

-- the table is in byte order, so no key occurs twice, and the first key that a unit uses is the first in byte order
unfoldable pub ascend_strictly : Option Version → Bool
ascend_strictly systemd = ascend (map (λ row. row.0) (keys systemd))

-- the table has all keys that name paths, by each of their names
unfoldable pub has_path_keys : Option Version → Bool
has_path_keys systemd = list_all (λ key. list_all (is_judged systemd) (names_of (dialect_of systemd) key)) path_keys
