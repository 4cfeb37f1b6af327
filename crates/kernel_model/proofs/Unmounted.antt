-- What umount2(2) refuses whatever is mounted.
use Rattle.std.proofs.Common.{◌≡◌, ℕ, [], Bool, true, false, cond, Result, Err, refl, ap}
use Rattle.std.specs.Prelude.{◌==◌, ◌||◌}
use Rattle.site_table.specs.abs_path.Paths.{Path}
use Rattle.kern_mounts.specs.linux_numbers.Errnos.{einval}
use Rattle.kern_mounts.specs.Mounts.{Mounts}
use Rattle.kern_mounts.specs.Umount.{after_umount}
use Rattle.kernel_model.specs.kern_files.UmountCall.{mnt_detach, umount_answer}

pub no_other_flags : (mounts : Mounts) (path : Path) (flags : ℕ) → (flags == 0 || flags == mnt_detach) ≡ false
    → umount_answer mounts path flags ≡ Err einval
no_other_flags mounts path flags other = ap (λ b. cond b (after_umount mounts path (flags == mnt_detach)) (Err einval)) other

pub root_stays : (mounts : Mounts) (flags : ℕ) → umount_answer mounts [] flags ≡ Err einval
root_stays mounts flags = either (flags == 0 || flags == mnt_detach)
  where
    either : (b : Bool) → ◌≡◌ {A = Result Mounts ℕ} (cond b (Err einval) (Err einval)) (Err einval)
    either true = refl
    either false = refl
