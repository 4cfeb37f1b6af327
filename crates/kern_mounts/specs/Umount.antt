-- umount2(2): the mounts after an unmount, or the errno of a refused one.
use Rattle.std.specs.Prelude.{ℕ, ◌++◌, ◌&&◌, not, Bool, filter, Option, Some, None, Result, Ok, Err, if◌then◌else◌}
use Rattle.std.specs.List.{list_any}
use Rattle.abs_path.specs.Paths.{Path, is_root}
use Rattle.linux_numbers.specs.Errnos.{ebusy, einval}
use Rattle.kern_mounts.specs.declared.step.Mount.{Mount}
use Rattle.kern_mounts.specs.Mounts.{Mounts, stands_at, stands_below}
use Rattle.kern_mounts.specs.Split.{SplitOf}
use Rattle.kern_mounts.specs.MountAt.{mount_at}

-- EINVAL if the path's mount has another place or is locked; then EBUSY if a later mount is strictly below the path and the
-- call does not detach (MNT_DETACH). Else the mount is removed, and the later mounts strictly below it too, locked or not
abbrev pub unmounted : Path → Bool → Option (SplitOf Mount) → Result Mounts ℕ
unmounted path detach None = Err einval
unmounted path detach (Some split) =
    if not (stands_at path split.entry) then Err einval
    else if split.entry.locked then Err einval
    else if not detach && list_any (stands_below path) split.later then Err ebusy
    else Ok (split.earlier ++ filter (λ mount. not (stands_below path mount)) split.later)

-- `/` is never unmounted: EINVAL
abbrev pub after_umount : Mounts → Path → Bool → Result Mounts ℕ
after_umount mounts path detach = if is_root path then Err einval else unmounted path detach (mount_at path mounts)
