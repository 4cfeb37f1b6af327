-- The mounts about a path's mount, and the entries about the path's entry.
use Rattle.std.proofs.Common.{◌≡◌, Bool, true, false, [], ◌∷◌, Option, Some, None, refl, sym, ap, ◌∙◌}
use Rattle.kernel_model.specs.abs_path.Paths.{Path}
use Rattle.kernel_model.specs.kern_mounts.Split as table
use Rattle.kernel_model.specs.kern_mounts.declared.step.Mount.{Mount}
use Rattle.kernel_model.specs.kern_mounts.Mounts.{Mounts, steps_of, leads}
use Rattle.kernel_model.specs.kern_mounts.Split.{SplitOf, split_or}
use Rattle.kernel_model.specs.kern_mounts.MountAt.{mount_at}

abbrev pub steps_split : Option (SplitOf Mount) → Option table.Split
steps_split None = None
steps_split (Some split) = Some (record { earlier = steps_of split.earlier; entry = split.entry.step; later = steps_of split.later })

steps_or : (o : Option (SplitOf Mount)) (b : Bool) (mount : Mount) (mounts : Mounts)
    → table.split_or (steps_split o) b mount.step (steps_of mounts) ≡ steps_split (split_or o b mount mounts)
steps_or (Some split) b mount mounts = refl
steps_or None true mount mounts = refl
steps_or None false mount mounts = refl

-- the entry that a path belongs to is that of its mount
pub split_steps : (path : Path) (mounts : Mounts) → table.split_at path (steps_of mounts) ≡ steps_split (mount_at path mounts)
split_steps path [] = refl
split_steps path (mount ∷ mounts) = ap (λ o. table.split_or o (leads path mount) mount.step (steps_of mounts)) (split_steps path mounts)
    ∙ steps_or (mount_at path mounts) (leads path mount) mount mounts

-- the mount of a path's entry
pub record IsMountOf (path : Path) (mounts : Mounts) (split : table.Split) : Type 0 where
  pub own : SplitOf Mount
  pub found : mount_at path mounts ≡ Some own
  pub same : own.entry.step ≡ split.entry

pub mount_of : (path : Path) (mounts : Mounts) (split : table.Split) → table.split_at path (steps_of mounts) ≡ Some split
    → IsMountOf path mounts split
mount_of path mounts split e = by (mount_at path mounts) refl (sym (split_steps path mounts) ∙ e)
  where
    by : (o : Option (SplitOf Mount)) → mount_at path mounts ≡ o → steps_split o ≡ Some split → IsMountOf path mounts split
    by None s f = cc
    by (Some own) s f =
        let same : record { earlier = steps_of own.earlier; entry = own.entry.step; later = steps_of own.later } ≡ split = cc in
        record { own = own; found = s; same = ap (λ (t : table.Split). t.entry) same }
