-- The keys that name paths (systemd.exec(5), Sandboxing), and the mention that each of their words makes.
use Rattle.std.specs.Prelude.{ℕ, Bool, true, false, cond, codes, find, List, [], ◌∷◌, Option, Some, None}
use Rattle.std.specs.List.{cons_option, list_any}
use Rattle.std.specs.Str.{bytes_eq}
use Rattle.path_settings.specs.declared.dialect.Dialect.{Dialect}
use Rattle.path_settings.specs.declared.dialect.Dialect.TheVariants.{Base, Systemd252, Systemd257}
use Rattle.path_settings.specs.declared.keys.PathKey.{PathKey}
use Rattle.path_settings.specs.declared.keys.PathKey.TheVariants.{ReadWritePaths, ReadOnlyPaths, InaccessiblePaths, ExecPaths, NoExecPaths}
use Rattle.path_settings.specs.declared.keys.PathKey.TheVariants.{BindPaths, BindReadOnlyPaths, TemporaryFileSystem, StateDirectory}
use Rattle.path_settings.specs.declared.keys.PathKey.TheVariants.{RuntimeDirectory, CacheDirectory, LogsDirectory, ConfigurationDirectory}
use Rattle.path_settings.specs.declared.mentions.Kind.TheVariants.{Ro, Rw, Exec, NoExec, Hide}
use Rattle.path_settings.specs.declared.mentions.Mention.{Mention}
use Rattle.path_settings.specs.Lists.{path_mention}
use Rattle.path_settings.specs.Binds.{bind_mention}
use Rattle.path_settings.specs.Temporary.{temporary_mention}
use Rattle.path_settings.specs.Folders.{folder_mention}

-- each key that names paths, once; the base profile knows all but the last
abbrev pub path_keys : List PathKey
path_keys = ReadWritePaths ∷ ReadOnlyPaths ∷ InaccessiblePaths ∷ ExecPaths ∷ NoExecPaths ∷ BindPaths ∷ BindReadOnlyPaths ∷
    TemporaryFileSystem ∷ StateDirectory ∷ RuntimeDirectory ∷ CacheDirectory ∷ LogsDirectory ∷ ConfigurationDirectory ∷ []

abbrev pub name_of : PathKey → List ℕ
name_of ReadWritePaths = codes "ReadWritePaths"
name_of ReadOnlyPaths = codes "ReadOnlyPaths"
name_of InaccessiblePaths = codes "InaccessiblePaths"
name_of ExecPaths = codes "ExecPaths"
name_of NoExecPaths = codes "NoExecPaths"
name_of BindPaths = codes "BindPaths"
name_of BindReadOnlyPaths = codes "BindReadOnlyPaths"
name_of TemporaryFileSystem = codes "TemporaryFileSystem"
name_of StateDirectory = codes "StateDirectory"
name_of RuntimeDirectory = codes "RuntimeDirectory"
name_of CacheDirectory = codes "CacheDirectory"
name_of LogsDirectory = codes "LogsDirectory"
name_of ConfigurationDirectory = codes "ConfigurationDirectory"

-- the older names of lists of paths, which systemd still reads
abbrev pub older_name : PathKey → Option (List ℕ)
older_name ReadWritePaths = Some (codes "ReadWriteDirectories")
older_name ReadOnlyPaths = Some (codes "ReadOnlyDirectories")
older_name InaccessiblePaths = Some (codes "InaccessibleDirectories")
older_name _ = None

-- whether the base profile knows the key
abbrev pub is_of_base : PathKey → Bool
is_of_base ConfigurationDirectory = false
is_of_base _ = true

-- the names of a key; the base profile knows one name of each of its keys
abbrev pub names_of : Dialect → PathKey → List (List ℕ)
names_of Base key = cond (is_of_base key) (name_of key ∷ []) []
names_of Systemd252 key = name_of key ∷ cons_option (older_name key) []
names_of Systemd257 key = name_of key ∷ cons_option (older_name key) []

abbrev pub is_named : Dialect → List ℕ → PathKey → Bool
is_named dialect text key = list_any (λ name. bytes_eq name text) (names_of dialect key)

-- the key of this name
abbrev pub key_named : Dialect → List ℕ → Option PathKey
key_named dialect text = find (is_named dialect text) path_keys

-- the keys that imply folders: their mentions follow all written ones
abbrev pub is_implied : PathKey → Bool
is_implied StateDirectory = true
is_implied RuntimeDirectory = true
is_implied CacheDirectory = true
is_implied LogsDirectory = true
is_implied ConfigurationDirectory = true
is_implied _ = false

abbrev pub mention_of : PathKey → List ℕ → Option Mention
mention_of ReadWritePaths word = path_mention Rw word
mention_of ReadOnlyPaths word = path_mention Ro word
mention_of InaccessiblePaths word = path_mention Hide word
mention_of ExecPaths word = path_mention Exec word
mention_of NoExecPaths word = path_mention NoExec word
mention_of BindPaths word = bind_mention false word
mention_of BindReadOnlyPaths word = bind_mention true word
mention_of TemporaryFileSystem word = temporary_mention word
mention_of StateDirectory word = folder_mention (codes "/var/lib") word
mention_of RuntimeDirectory word = folder_mention (codes "/run") word
mention_of CacheDirectory word = folder_mention (codes "/var/cache") word
mention_of LogsDirectory word = folder_mention (codes "/var/log") word
mention_of ConfigurationDirectory word = folder_mention (codes "/etc") word
