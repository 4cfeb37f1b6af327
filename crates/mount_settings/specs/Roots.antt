-- Mentions that would mount something over the root, which is the host's (systemd.exec(5), BindPaths=, BindReadOnlyPaths=,
-- InaccessiblePaths= and TemporaryFileSystem=).
use Rattle.std.specs.Prelude.{◌≡◌, ◌&&◌, ◌||◌, not, Bool, true, List, [], ◌∷◌, Option, find}
use Rattle.std.specs.List.{list_any, list_all}
use Rattle.path_settings.specs.abs_path.Paths.{is_root}
use Rattle.path_settings.specs.declared.keys.PathKey.{PathKey}
use Rattle.path_settings.specs.declared.keys.PathKey.TheVariants.{InaccessiblePaths, BindPaths, BindReadOnlyPaths, TemporaryFileSystem}
use Rattle.path_settings.specs.Keys.{is_implied}
use Rattle.path_settings.specs.Mentions.{is_origin}
use Rattle.path_settings.specs.Short.{is_short}
use Rattle.mount_settings.specs.declared.written.WrittenPath.{WrittenPath}
use Rattle.mount_settings.specs.Assigned.{is_key}

-- the keys that say which object is at a path, in byte order of their names
abbrev pub root_keys : List PathKey
root_keys = BindPaths ∷ BindReadOnlyPaths ∷ InaccessiblePaths ∷ TemporaryFileSystem ∷ []

-- the key mentions the root; for a bind, as its destination
abbrev pub mentions_root : List WrittenPath → PathKey → Bool
mentions_root paths key = list_any (λ path. is_key path.key key && is_root path.mention.path) paths

-- the first such key
abbrev pub root_key : List WrittenPath → Option PathKey
root_key paths = find (mentions_root paths) root_keys

-- a folder is shown at its own path and at its links, and never at the root
abbrev pub is_folder : WrittenPath → Bool
is_folder path = is_implied path.key && not (is_root path.mention.path)

-- apart from folders, only these keys hide a path, empty it or put another object there
abbrev pub is_as_its_key : WrittenPath → Bool
is_as_its_key path = not (is_origin path.mention.kind) || (list_any (is_key path.key) root_keys || is_folder path)

-- each written path says what its key can say, and is short
pub record AreRead (paths : List WrittenPath) : Type 0 where
  pub as_their_keys : list_all is_as_its_key paths ≡ true
  pub short : list_all (λ path. is_short path.mention) paths ≡ true
