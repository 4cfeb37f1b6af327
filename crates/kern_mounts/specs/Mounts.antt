-- The mounts of a namespace: the entries of its table, and the restrictions that a less privileged namespace cannot undo
-- (mount_namespaces(7), "Restrictions on mount namespaces").
use Rattle.std.specs.Prelude.{◌≡◌, Bool, false, List, map}
use Rattle.std.specs.List.{AllByRecursion}
use Rattle.abs_path.specs.Paths.{Path}
use Rattle.kern_mounts.specs.declared.step.Mount.{Mount}
use Rattle.kern_mounts.specs.declared.step.MountStep.{MountStep}
use Rattle.kern_mounts.specs.Entry.{leads_to}
use Rattle.kern_mounts.specs.Split.{Table, is_at, is_below}
use Rattle.kern_mounts.specs.Table.{no_flags, start}

-- the mounts of a namespace, the earliest first
abbrev pub Mounts : Type 0
Mounts = List Mount

-- the entries, on which a path is looked up
abbrev pub steps_of : Mounts → Table
steps_of mounts = map (λ mount. mount.step) mounts

-- the mount's place is the path, or leads to it
abbrev pub leads : Path → Mount → Bool
leads path mount = leads_to path mount.step

-- the mount's place is the path
abbrev pub stands_at : Path → Mount → Bool
stands_at path mount = is_at path mount.step

-- the mount's place is strictly below the path
abbrev pub stands_below : Path → Mount → Bool
stands_below path mount = is_below path mount.step

-- a mount that is not locked and keeps no flags
abbrev pub plain : MountStep → Mount
plain step = record { step = step; locked = false; kept = no_flags }

abbrev pub IsPlain : Mount → Type 0
IsPlain mount = (mount.locked ≡ false) × (mount.kept ≡ no_flags)

-- no mount is locked and none keeps a flag, as in the first user namespace
abbrev pub ArePlain : Mounts → Type 0
ArePlain mounts = AllByRecursion IsPlain mounts

-- the host itself, the mounts of the first mount namespace (mount_namespaces(7))
abbrev pub first_mounts : Mounts
first_mounts = map plain start
