use Rattle.std.proofs.Common.{◌≡◌, ℕ, Bool, true, false, List, Some, find, refl}
use Rattle.std.specs.Prelude.{◌||◌}
use Rattle.std.specs.Str.{bytes_eq}
use Rattle.std.proofs.lemmas.Slice.Eq.{bytes_eq-Decides}
use Rattle.path_settings.specs.declared.dialect.Dialect.TheVariants.{Base}
use Rattle.path_settings.specs.declared.keys.PathKey.{PathKey}
use Rattle.path_settings.specs.declared.keys.PathKey.TheVariants.{ReadWritePaths, ReadOnlyPaths, InaccessiblePaths, ExecPaths, NoExecPaths}
use Rattle.path_settings.specs.declared.keys.PathKey.TheVariants.{BindPaths, BindReadOnlyPaths, TemporaryFileSystem, StateDirectory}
use Rattle.path_settings.specs.declared.keys.PathKey.TheVariants.{RuntimeDirectory, CacheDirectory, LogsDirectory, ConfigurationDirectory}
use Rattle.path_settings.specs.Keys.{path_keys, name_of, is_of_base, is_named, key_named}
use Rattle.path_settings.proofs.Named.{each_name_finds, found_passes}
use Rattle.path_settings.proofs.laws.keys_and_names.Goals as goal

found : (key : PathKey) → find (λ other. bytes_eq (name_of other) (name_of key)) path_keys ≡ Some key
found ReadWritePaths = refl
found ReadOnlyPaths = refl
found InaccessiblePaths = refl
found ExecPaths = refl
found NoExecPaths = refl
found BindPaths = refl
found BindReadOnlyPaths = refl
found TemporaryFileSystem = refl
found StateDirectory = refl
found RuntimeDirectory = refl
found CacheDirectory = refl
found LogsDirectory = refl
found ConfigurationDirectory = refl

by_name : (key : PathKey) → is_of_base key ≡ true → key_named Base (name_of key) ≡ Some key
by_name ReadWritePaths base = refl
by_name ReadOnlyPaths base = refl
by_name InaccessiblePaths base = refl
by_name ExecPaths base = refl
by_name NoExecPaths base = refl
by_name BindPaths base = refl
by_name BindReadOnlyPaths base = refl
by_name TemporaryFileSystem base = refl
by_name StateDirectory base = refl
by_name RuntimeDirectory base = refl
by_name CacheDirectory base = refl
by_name LogsDirectory base = refl
by_name ConfigurationDirectory base = cc

alone : (b : Bool) → (b || false) ≡ true → b ≡ true
alone true e = refl
alone false e = cc

-- a key of the base profile has one name
named_so : (key : PathKey) (text : List ℕ) → is_named Base text key ≡ true → (is_of_base key ≡ true) × (name_of key ≡ text)
named_so ReadWritePaths text is = (refl, (bytes_eq-Decides (name_of ReadWritePaths) text).0 (alone (bytes_eq (name_of ReadWritePaths) text) is))
named_so ReadOnlyPaths text is = (refl, (bytes_eq-Decides (name_of ReadOnlyPaths) text).0 (alone (bytes_eq (name_of ReadOnlyPaths) text) is))
named_so InaccessiblePaths text is = (refl, (bytes_eq-Decides (name_of InaccessiblePaths) text).0 (alone (bytes_eq (name_of InaccessiblePaths) text) is))
named_so ExecPaths text is = (refl, (bytes_eq-Decides (name_of ExecPaths) text).0 (alone (bytes_eq (name_of ExecPaths) text) is))
named_so NoExecPaths text is = (refl, (bytes_eq-Decides (name_of NoExecPaths) text).0 (alone (bytes_eq (name_of NoExecPaths) text) is))
named_so BindPaths text is = (refl, (bytes_eq-Decides (name_of BindPaths) text).0 (alone (bytes_eq (name_of BindPaths) text) is))
named_so BindReadOnlyPaths text is = (refl, (bytes_eq-Decides (name_of BindReadOnlyPaths) text).0 (alone (bytes_eq (name_of BindReadOnlyPaths) text) is))
named_so TemporaryFileSystem text is = (refl, (bytes_eq-Decides (name_of TemporaryFileSystem) text).0 (alone (bytes_eq (name_of TemporaryFileSystem) text) is))
named_so StateDirectory text is = (refl, (bytes_eq-Decides (name_of StateDirectory) text).0 (alone (bytes_eq (name_of StateDirectory) text) is))
named_so RuntimeDirectory text is = (refl, (bytes_eq-Decides (name_of RuntimeDirectory) text).0 (alone (bytes_eq (name_of RuntimeDirectory) text) is))
named_so CacheDirectory text is = (refl, (bytes_eq-Decides (name_of CacheDirectory) text).0 (alone (bytes_eq (name_of CacheDirectory) text) is))
named_so LogsDirectory text is = (refl, (bytes_eq-Decides (name_of LogsDirectory) text).0 (alone (bytes_eq (name_of LogsDirectory) text) is))
named_so ConfigurationDirectory text is = cc

pub returns : goal.returns
returns c = record {
  all_keys = refl;
  found_by_its_name = found;
  base_finds_by_name = by_name;
  base_has_no_other = λ text key e. named_so key text (found_passes (is_named Base text) path_keys key e);
  found_by_each_name = each_name_finds;
}
