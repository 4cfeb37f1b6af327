-- The changes that processes with the right to mount can make to the mounts of a namespace and to its copies.
use Rattle.std.specs.Prelude.{◌≡◌, Bool, Ok}
use Rattle.abs_path.specs.Paths.{Path}
use Rattle.kern_mounts.specs.declared.step.Flags.{Flags}
use Rattle.kern_mounts.specs.declared.step.What.TheVariants.{Empty}
use Rattle.kern_mounts.specs.Mounts.{Mounts}
use Rattle.kern_mounts.specs.Umount.{after_umount}
use Rattle.kern_mounts.specs.Remount.{after_remount}
use Rattle.kern_mounts.specs.Push.{after_push}
use Rattle.kern_mounts.specs.Bind.{after_bind}
use Rattle.kern_mounts.specs.Copying.{locked_copy}

-- any number of successful calls, and of locked copies
pub data Changes : Mounts → Mounts → Type 0 where
  still : {mounts : Mounts} → Changes mounts mounts
  then_bind : {mounts next last : Mounts} (source target : Path) (recursive : Bool)
      → after_bind mounts source target recursive ≡ Ok next → Changes next last → Changes mounts last
  then_empty : {mounts next last : Mounts} (target : Path) (flags : Flags)
      → after_push mounts (record { place = target; what = Empty; flags = flags }) ≡ Ok next → Changes next last
      → Changes mounts last
  then_remount : {mounts next last : Mounts} (place : Path) (flags : Flags) → after_remount mounts place flags ≡ Ok next
      → Changes next last → Changes mounts last
  then_umount : {mounts next last : Mounts} (path : Path) (detach : Bool) → after_umount mounts path detach ≡ Ok next
      → Changes next last → Changes mounts last
  then_locked : {mounts last : Mounts} → Changes (locked_copy mounts) last → Changes mounts last
