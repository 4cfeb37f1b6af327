-- The mounts of a namespace that starts as a copy of another, mount_namespaces(7).
use Rattle.std.specs.Prelude.{Bool, true, false, map}
use Rattle.kern_mounts.specs.declared.step.Mount.{Mount}
use Rattle.kern_mounts.specs.Mounts.{Mounts}

-- the mount, locked so that it cannot be unmounted alone, and with its flags kept
abbrev pub locked : Mount → Mount
locked mount = record { step = mount.step; locked = true; kept = mount.step.flags }

-- the copy for a namespace of another user namespace: the same mounts, each locked
abbrev pub locked_copy : Mounts → Mounts
locked_copy mounts = map locked mounts

-- the copy, which is locked if the two namespaces belong to different user namespaces
abbrev pub copied : Bool → Mounts → Mounts
copied false mounts = mounts
copied true mounts = locked_copy mounts
