-- umount2(2) of a process that may mount: EINVAL for any flag but MNT_DETACH; else the mounts after the call.
use Rattle.std.specs.Prelude.{ℕ, ◌==◌, ◌||◌, Result, Err, if◌then◌else◌}
use Rattle.site_table.specs.abs_path.Paths.{Path}
use Rattle.kern_mounts.specs.linux_numbers.Errnos.{einval}
use Rattle.kern_mounts.specs.Mounts.{Mounts}
use Rattle.kern_mounts.specs.Umount.{after_umount}

-- MNT_DETACH: removes the mounts below, too
abbrev pub mnt_detach : ℕ
mnt_detach = 2

abbrev pub umount_answer : Mounts → Path → ℕ → Result Mounts ℕ
umount_answer mounts path flags =
    if flags == 0 || flags == mnt_detach then after_umount mounts path (flags == mnt_detach) else Err einval
