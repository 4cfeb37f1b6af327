-- Names distinguish the keys.
use Rattle.std.proofs.Common.{◌≡◌, Bool, true, false, Some, List, [], ◌∷◌, refl, sym, ap, ◌∙◌, cond}
use Rattle.std.specs.Prelude.{find}
use Rattle.std.specs.Str.{bytes_eq}
use Rattle.std.proofs.lemmas.Slice.Eq.{bytes_eq-Decides}
use Rattle.path_settings.specs.declared.keys.PathKey.{PathKey}
use Rattle.path_settings.specs.declared.keys.PathKey.TheVariants.{ReadWritePaths, ReadOnlyPaths, InaccessiblePaths, ExecPaths, NoExecPaths}
use Rattle.path_settings.specs.declared.keys.PathKey.TheVariants.{BindPaths, BindReadOnlyPaths, TemporaryFileSystem, StateDirectory}
use Rattle.path_settings.specs.declared.keys.PathKey.TheVariants.{RuntimeDirectory, CacheDirectory, LogsDirectory, ConfigurationDirectory}
use Rattle.path_settings.specs.Keys.{path_keys, name_of}
use Rattle.mount_settings.specs.Assigned.{is_key}

pub found_by_name : (key : PathKey) → find (λ other. bytes_eq (name_of other) (name_of key)) path_keys ≡ Some key
found_by_name ReadWritePaths = refl
found_by_name ReadOnlyPaths = refl
found_by_name InaccessiblePaths = refl
found_by_name ExecPaths = refl
found_by_name NoExecPaths = refl
found_by_name BindPaths = refl
found_by_name BindReadOnlyPaths = refl
found_by_name TemporaryFileSystem = refl
found_by_name StateDirectory = refl
found_by_name RuntimeDirectory = refl
found_by_name CacheDirectory = refl
found_by_name LogsDirectory = refl
found_by_name ConfigurationDirectory = refl

pub same_name : (one other : PathKey) → is_key one other ≡ true → name_of one ≡ name_of other
same_name one other e = (bytes_eq-Decides (name_of one) (name_of other)).0 e

same_some : {X : Type 0} (x y : X) → Some x ≡ Some y → x ≡ y
same_some x y e = cc

pub same_key : (one other : PathKey) → is_key one other ≡ true → one ≡ other
same_key one other e =
    same_some one other
    (sym (found_by_name one) ∙ ap (λ name. find (λ key. bytes_eq (name_of key) name) path_keys) (same_name one other e)
    ∙ found_by_name other)

pub is_itself : (key : PathKey) → is_key key key ≡ true
is_itself key = (bytes_eq-Decides (name_of key) (name_of key)).1 refl

-- an element that is found passes the test
pub found_passes : {X : Type 0} (p : X → Bool) (xs : List X) (x : X) → find p xs ≡ Some x → p x ≡ true
found_passes p [] x e = cc
found_passes p (y ∷ ys) x e =
    let rest = found_passes p ys x in
    (elim (p y) as (λ b. p y ≡ b → cond b (Some y) (find p ys) ≡ Some x → p x ≡ true) [
      | true ↦ λ is first. ap p (sym (same_some y x first)) ∙ is
      | false ↦ λ is other. rest other
    ]) refl e
