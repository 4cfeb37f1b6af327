-- Keys are found by their names.
use Rattle.std.proofs.Common.{◌≡◌, ℕ, Bool, true, false, cond, Some, List, [], ◌∷◌, refl, sym, ap, ◌∙◌, subst}
use Rattle.std.specs.Prelude.{◌||◌, find}
use Rattle.std.specs.List.{AllByRecursion, list_any}
use Rattle.std.specs.Str.{bytes_eq}
use Rattle.std.proofs.lemmas.Slice.Eq.{bytes_eq-Decides}
use Rattle.path_settings.specs.declared.dialect.Dialect.{Dialect}
use Rattle.path_settings.specs.declared.dialect.Dialect.TheVariants.{Base, Systemd252, Systemd257}
use Rattle.path_settings.specs.declared.keys.PathKey.{PathKey}
use Rattle.path_settings.specs.declared.keys.PathKey.TheVariants.{ReadWritePaths, ReadOnlyPaths, InaccessiblePaths, ExecPaths, NoExecPaths}
use Rattle.path_settings.specs.declared.keys.PathKey.TheVariants.{BindPaths, BindReadOnlyPaths, TemporaryFileSystem, StateDirectory}
use Rattle.path_settings.specs.declared.keys.PathKey.TheVariants.{RuntimeDirectory, CacheDirectory, LogsDirectory, ConfigurationDirectory}
use Rattle.path_settings.specs.Keys.{names_of, is_named, key_named}

same_some : {X : Type 0} (x y : X) → Some x ≡ Some y → x ≡ y
same_some x y e = cc

-- an element that is found passes the test
pub found_passes : {X : Type 0} (p : X → Bool) (xs : List X) (x : X) → find p xs ≡ Some x → p x ≡ true
found_passes p [] x e = cc
found_passes p (y ∷ ys) x e =
    let rest = found_passes p ys x in
    (elim (p y) as (λ b. p y ≡ b → cond b (Some y) (find p ys) ≡ Some x → p x ≡ true) [
      | true ↦ λ is first. ap p (sym (same_some y x first)) ∙ is
      | false ↦ λ is other. rest other
    ]) refl e

-- each name of a key finds it
pub each_name_finds : (dialect : Dialect) (key : PathKey) → AllByRecursion (λ name. key_named dialect name ≡ Some key) (names_of dialect key)
each_name_finds Base ReadWritePaths = (refl, tt)
each_name_finds Base ReadOnlyPaths = (refl, tt)
each_name_finds Base InaccessiblePaths = (refl, tt)
each_name_finds Base ExecPaths = (refl, tt)
each_name_finds Base NoExecPaths = (refl, tt)
each_name_finds Base BindPaths = (refl, tt)
each_name_finds Base BindReadOnlyPaths = (refl, tt)
each_name_finds Base TemporaryFileSystem = (refl, tt)
each_name_finds Base StateDirectory = (refl, tt)
each_name_finds Base RuntimeDirectory = (refl, tt)
each_name_finds Base CacheDirectory = (refl, tt)
each_name_finds Base LogsDirectory = (refl, tt)
each_name_finds Base ConfigurationDirectory = tt
each_name_finds Systemd252 ReadWritePaths = (refl, (refl, tt))
each_name_finds Systemd252 ReadOnlyPaths = (refl, (refl, tt))
each_name_finds Systemd252 InaccessiblePaths = (refl, (refl, tt))
each_name_finds Systemd252 ExecPaths = (refl, tt)
each_name_finds Systemd252 NoExecPaths = (refl, tt)
each_name_finds Systemd252 BindPaths = (refl, tt)
each_name_finds Systemd252 BindReadOnlyPaths = (refl, tt)
each_name_finds Systemd252 TemporaryFileSystem = (refl, tt)
each_name_finds Systemd252 StateDirectory = (refl, tt)
each_name_finds Systemd252 RuntimeDirectory = (refl, tt)
each_name_finds Systemd252 CacheDirectory = (refl, tt)
each_name_finds Systemd252 LogsDirectory = (refl, tt)
each_name_finds Systemd252 ConfigurationDirectory = (refl, tt)
each_name_finds Systemd257 ReadWritePaths = (refl, (refl, tt))
each_name_finds Systemd257 ReadOnlyPaths = (refl, (refl, tt))
each_name_finds Systemd257 InaccessiblePaths = (refl, (refl, tt))
each_name_finds Systemd257 ExecPaths = (refl, tt)
each_name_finds Systemd257 NoExecPaths = (refl, tt)
each_name_finds Systemd257 BindPaths = (refl, tt)
each_name_finds Systemd257 BindReadOnlyPaths = (refl, tt)
each_name_finds Systemd257 TemporaryFileSystem = (refl, tt)
each_name_finds Systemd257 StateDirectory = (refl, tt)
each_name_finds Systemd257 RuntimeDirectory = (refl, tt)
each_name_finds Systemd257 CacheDirectory = (refl, tt)
each_name_finds Systemd257 LogsDirectory = (refl, tt)
each_name_finds Systemd257 ConfigurationDirectory = (refl, tt)

-- if each name has a property, so has a text that is one of them
of_names : (P : List ℕ → Type 0) (names : List (List ℕ)) (text : List ℕ) → AllByRecursion P names
    → list_any (λ name. bytes_eq name text) names ≡ true → P text
of_names P [] text each is = cc
of_names P (name ∷ names) text each is =
    let rest = of_names P names text each.1 in
    (elim (bytes_eq name text) as (λ b. bytes_eq name text ≡ b → (b || list_any (λ other. bytes_eq other text) names) ≡ true → P text) [
      | true ↦ λ same any. subst P ((bytes_eq-Decides name text).0 same) each.0
      | false ↦ λ differs any. rest any
    ]) refl is

pub found_named : (dialect : Dialect) (key : PathKey) (text : List ℕ) → is_named dialect text key ≡ true → key_named dialect text ≡ Some key
found_named dialect key text is =
    of_names (λ name. key_named dialect name ≡ Some key) (names_of dialect key) text (each_name_finds dialect key) is
