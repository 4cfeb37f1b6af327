-- The mounts that a bind adds after the others, while it adds them.
use Rattle.std.specs.Prelude.{◌≡◌, ℕ, ◌∷◌, ◌++◌, true, false, get_or}
use Rattle.std.specs.List.{list_any}
use Rattle.abs_path.specs.Paths.{Path}
use Rattle.kern_mounts.specs.Mounts.{Mounts}
use Rattle.kern_mounts.specs.Bind.{bound_mount, copies, goes_too_far}
use Rattle.kern_mounts.specs.declared.step.Mount.{Mount}

-- the old mounts are followed by copies of these later ones that are strictly below the source; no copy has too long a place
pub record HasCopies (old new later : Mounts) (source target : Path) : Type 0 where
  pub none_long : list_any (λ mount. goes_too_far source target mount.step) later ≡ false
  pub behind : new ≡ old ++ copies true source target later

-- the same, with the mount at the target, made from the source's mount, before the copies
pub record HasBound (old new : Mounts) (at : ℕ) (later : Mounts) (source target : Path) : Type 0 where
  pub none_long : list_any (λ mount. goes_too_far source target mount.step) later ≡ false
  pub behind : (mount : Mount) → mount ≡ get_or old at mount
      → new ≡ old ++ bound_mount source target mount ∷ copies true source target later
