-- What a call of mount(2) or umount2(2) that is done does to the mounts.
use Rattle.std.proofs.Common.{◌≡◌, ℕ, Bool, true, false, cond, refl, Option, Result, Ok, Err}
use Rattle.std.specs.Prelude.{◌==◌, ◌||◌, not}
use Rattle.site_table.specs.abs_path.Paths.{Path, is_root}
use Rattle.kern_mounts.specs.linux_numbers.Errnos.{ebusy, enotdir, einval}
use Rattle.site_table.specs.declared.row.Row.{Row}
use Rattle.kern_mounts.specs.Finds.{finds}
use Rattle.kern_mounts.specs.declared.step.What.TheVariants.{Empty}
use Rattle.kern_mounts.specs.Umount.{after_umount}
use Rattle.kern_mounts.specs.Remount.{after_remount}
use Rattle.kern_mounts.specs.Push.{after_push}
use Rattle.kern_mounts.specs.Bind.{after_bind}
use Rattle.kern_mounts.specs.Mounts.{Mounts, steps_of, ArePlain}
use Rattle.kern_mounts.specs.Changes.{Changes, still, then_bind, then_empty, then_remount, then_umount}
use Rattle.kern_mounts.proofs.Plain.{umount_plain, remount_plain, push_plain, bind_plain}
use Rattle.kernel_model.specs.kern_files.Bits.{has_some, has_all}
use Rattle.kernel_model.specs.kern_files.MountCall.{ms_bind, ms_rec, ms_remount, ms_remount_bind, has_other_kind, flags_of, kind_found}
use Rattle.kernel_model.specs.kern_files.MountCall.{target_kind, is_same_kind, bind_found, mount_onto, after_mount}
use Rattle.kernel_model.specs.kern_files.UmountCall.{mnt_detach, umount_answer}

-- what a call of mount that is done does: one of the four changes
pub data Does (mounts next : Mounts) (source target : Path) (flags : ℕ) : Type 0 where
  binds : is_root target ≡ false → after_bind mounts source target (has_some ms_rec flags) ≡ Ok next → Does mounts next source target flags
  empties : is_root target ≡ false → after_push mounts (record { place = target; what = Empty; flags = flags_of flags }) ≡ Ok next
      → Does mounts next source target flags
  remounts : after_remount mounts target (flags_of flags) ≡ Ok next → Does mounts next source target flags

pub mount_does : (rows : Path → Option Row) (mounts next : Mounts) (source target : Path) (flags : ℕ)
    → after_mount rows mounts source target flags ≡ Ok next → Does mounts next source target flags
mount_does rows mounts next source target flags e = by (has_other_kind flags) (has_all ms_remount_bind flags) (has_some ms_remount flags)
    (is_root target) refl e
  where
    found : is_root target ≡ false → (directory : Bool) (o : Result Bool ℕ)
        → bind_found mounts source target (has_some ms_rec flags) directory o ≡ Ok next → Does mounts next source target flags
    found low directory (Err errno) f = cc
    found low directory (Ok own) f = alike (is_same_kind own directory) f
      where
        alike : (b : Bool) → cond {A = Result Mounts ℕ} b (after_bind mounts source target (has_some ms_rec flags)) (Err enotdir)
            ≡ Ok next → Does mounts next source target flags
        alike true f = binds low f
        alike false f = cc

    onto : is_root target ≡ false → (o : Result Bool ℕ) → mount_onto rows mounts source target flags o ≡ Ok next
        → Does mounts next source target flags
    onto low (Err errno) f = cc
    onto low (Ok directory) f = kind (has_some ms_bind flags) (not directory) f
      where
        kind : (b d : Bool) → cond {A = Result Mounts ℕ} b
            (bind_found mounts source target (has_some ms_rec flags) directory (kind_found (finds rows (steps_of mounts) source)))
            (cond {A = Result Mounts ℕ} d (Err enotdir)
            (after_push mounts (record { place = target; what = Empty; flags = flags_of flags }))) ≡ Ok next
            → Does mounts next source target flags
        kind true d f = found low directory (kind_found (finds rows (steps_of mounts) source)) f
        kind false true f = cc
        kind false false f = empties low f

    by : (other single remount root : Bool) → is_root target ≡ root → cond {A = Result Mounts ℕ} other (Err einval)
        (cond {A = Result Mounts ℕ} single (after_remount mounts target (flags_of flags))
        (cond {A = Result Mounts ℕ} remount (Err einval)
        (cond {A = Result Mounts ℕ} root (Err ebusy)
        (mount_onto rows mounts source target flags (target_kind rows (steps_of mounts) target))))) ≡ Ok next
        → Does mounts next source target flags
    by true single remount root low f = cc
    by false true remount root low f = remounts f
    by false false true root low f = cc
    by false false false true low f = cc
    by false false false false low f = onto low (target_kind rows (steps_of mounts) target) f

pub mount_changes : (rows : Path → Option Row) (mounts next : Mounts) (source target : Path) (flags : ℕ)
    → after_mount rows mounts source target flags ≡ Ok next → Changes mounts next
mount_changes rows mounts next source target flags e = by (mount_does rows mounts next source target flags e)
  where
    by : Does mounts next source target flags → Changes mounts next
    by (binds low f) = then_bind source target (has_some ms_rec flags) f still
    by (empties low f) = then_empty target (flags_of flags) f still
    by (remounts f) = then_remount target (flags_of flags) f still

pub umount_does : (mounts next : Mounts) (path : Path) (flags : ℕ) → umount_answer mounts path flags ≡ Ok next
    → after_umount mounts path (flags == mnt_detach) ≡ Ok next
umount_does mounts next path flags e = by (flags == 0 || flags == mnt_detach) e
  where
    by : (b : Bool) → cond {A = Result Mounts ℕ} b (after_umount mounts path (flags == mnt_detach)) (Err einval) ≡ Ok next
        → after_umount mounts path (flags == mnt_detach) ≡ Ok next
    by true f = f
    by false f = cc

pub umount_changes : (mounts next : Mounts) (path : Path) (flags : ℕ) → umount_answer mounts path flags ≡ Ok next
    → Changes mounts next
umount_changes mounts next path flags e = then_umount path (flags == mnt_detach) (umount_does mounts next path flags e) still

-- ---- mounts that are not locked and keep nothing
pub mount_stays_plain : (rows : Path → Option Row) (mounts next : Mounts) (source target : Path) (flags : ℕ) → ArePlain mounts
    → after_mount rows mounts source target flags ≡ Ok next → ArePlain next
mount_stays_plain rows mounts next source target flags h e = by (mount_does rows mounts next source target flags e)
  where
    by : Does mounts next source target flags → ArePlain next
    by (binds low f) = bind_plain mounts next source target (has_some ms_rec flags) h f
    by (empties low f) = push_plain mounts next (record { place = target; what = Empty; flags = flags_of flags }) h f
    by (remounts f) = remount_plain mounts next target (flags_of flags) h f

pub umount_stays_plain : (mounts next : Mounts) (path : Path) (flags : ℕ) → ArePlain mounts → umount_answer mounts path flags ≡ Ok next
    → ArePlain next
umount_stays_plain mounts next path flags h e =
    umount_plain mounts next path (flags == mnt_detach) h (umount_does mounts next path flags e)
