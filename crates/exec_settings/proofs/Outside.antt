-- The facts of a unit with no key outside of the model.
use Rattle.std.specs.Option.{option_map}
use Rattle.std.proofs.Common.{◌≡◌, ℕ, zero, suc, Bool, true, false, cond, Option, Some, None, List, [], ◌∷◌, refl, sym, ap, ◌∙◌, subst}
use Rattle.std.specs.Prelude.{find, slice_get}
use Rattle.cred_settings.specs.dropin_merge.declared.resolved.Resolved.{Resolved}
use Rattle.mount_settings.specs.path_settings.declared.keys.PathKey.TheVariants as path
use Rattle.mount_settings.specs.Roots.{mentions_root, root_key}
use Rattle.mount_settings.specs.Written.{unit_written}
use Rattle.mount_settings.specs.unit_names.declared.version.Version.{Version}
use Rattle.exec_settings.specs.Keys.{keys}
use Rattle.exec_settings.specs.declared.keys.Meaning.{Meaning}
use Rattle.exec_settings.specs.Profile.{is_outside, outside_key}

passed : {X : Type 0} (b : Bool) (x : X) (found : Option X) → cond b (Some x) found ≡ None → (b ≡ false) × (found ≡ None)
passed false x found none = (refl, none)
passed true x found none = cc

-- if no element is found, none passes
none_passes : {X : Type 0} (p : X → Bool) (xs : List X) (i : ℕ) (x : X) → slice_get xs i ≡ Some x → find p xs ≡ None → p x ≡ false
none_passes p [] i x is none = cc
none_passes p (y ∷ xs) zero x is none = let same : y ≡ x = cc in subst (λ z. p z ≡ false) same (passed (p y) y (find p xs) none).0
none_passes p (y ∷ xs) (suc i) x is none = none_passes p xs i x is (passed (p y) y (find p xs) none).1

none_of_four : {X : Type 0} (p : X → Bool) (a b c d : X) → p a ≡ false → p b ≡ false → p c ≡ false → p d ≡ false
    → find p (a ∷ b ∷ c ∷ d ∷ []) ≡ None
none_of_four p a b c d not_a not_b not_c not_d =
    ap (λ v. cond v (Some a) (find p (b ∷ c ∷ d ∷ []))) not_a
    ∙ ap (λ v. cond v (Some b) (find p (c ∷ d ∷ []))) not_b
    ∙ ap (λ v. cond v (Some c) (find p (d ∷ []))) not_c
    ∙ ap (λ v. cond v (Some d) None) not_d

none_mapped : {X Y : Type 0} (f : X → Y) (o : Option X) → option_map f o ≡ None → o ≡ None
none_mapped f None e = refl
none_mapped f (Some x) e = cc

module _ (unit : Resolved) (relative : Bool) where
  -- no row of the table is outside
  abbrev AllUnused : Option Version → Type 0
  AllUnused systemd = find (is_outside unit relative) (keys systemd) ≡ None

  unused : (systemd : Option Version) → AllUnused systemd → (i : ℕ) (row : List ℕ × Meaning) → slice_get (keys systemd) i ≡ Some row
      → is_outside unit relative row ≡ false
  unused systemd none i row is = none_passes (is_outside unit relative) (keys systemd) i row is none

  absolute_by : (systemd : Option Version) → AllUnused systemd → relative ≡ false
  unfolding keys
  absolute_by None none = unused None none 7 _ refl
  absolute_by (Some version) none = unused (Some version) none 8 _ refl

  rootless_by : (systemd : Option Version) → AllUnused systemd → root_key (unit_written unit) ≡ None
  unfolding keys
  rootless_by None none =
      none_of_four (mentions_root (unit_written unit)) path.BindPaths path.BindReadOnlyPaths path.InaccessiblePaths path.TemporaryFileSystem
      (unused None none 1 _ refl) (unused None none 2 _ refl) (unused None none 11 _ refl) (unused None none 44 _ refl)
  rootless_by (Some version) none =
      none_of_four (mentions_root (unit_written unit)) path.BindPaths path.BindReadOnlyPaths path.InaccessiblePaths path.TemporaryFileSystem
      (unused (Some version) none 1 _ refl) (unused (Some version) none 2 _ refl) (unused (Some version) none 13 _ refl)
      (unused (Some version) none 45 _ refl)

  module _ (none : outside_key unit relative ≡ None) where
    all_unused : AllUnused unit.systemd
    unfolding outside_key
    all_unused = none_mapped (λ row. row.0) (find (is_outside unit relative) (keys unit.systemd)) none

    -- the program is not relative
    pub not_relative : relative ≡ false
    not_relative = absolute_by unit.systemd all_unused

    -- no key mounts something over the root
    pub no_root_key : root_key (unit_written unit) ≡ None
    no_root_key = rootless_by unit.systemd all_unused
