-- mount(2), MS_REMOUNT with MS_BIND: the mounts after a remount, or the errno of a refused one.
use Rattle.std.specs.Prelude.{ℕ, [], ◌∷◌, ◌++◌, Option, Some, None, Result, Ok, Err, if◌then◌else◌}
use Rattle.abs_path.specs.Paths.{Path}
use Rattle.linux_numbers.specs.Errnos.{einval, eperm}
use Rattle.kern_mounts.specs.declared.step.Flags.{Flags}
use Rattle.kern_mounts.specs.declared.step.Mount.{Mount}
use Rattle.kern_mounts.specs.Mounts.{Mounts, stands_at}
use Rattle.kern_mounts.specs.Keeping.{lacks}
use Rattle.kern_mounts.specs.Split.{SplitOf}
use Rattle.kern_mounts.specs.MountAt.{mount_at}

-- the mount, with its flags replaced by these
abbrev pub with_flags : Mount → Flags → Mount
with_flags mount flags = record mount { step = record mount.step { flags = flags } }

-- EINVAL if the path's mount has another place; EPERM if that mount keeps a flag that is not given; else the mount's flags are
-- replaced
abbrev pub remounted : Path → Flags → Option (SplitOf Mount) → Result Mounts ℕ
remounted place flags None = Err einval
remounted place flags (Some split) =
    if stands_at place split.entry then
    if lacks split.entry.kept flags then Err eperm
    else Ok (split.earlier ++ with_flags split.entry flags ∷ split.later)
    else Err einval

abbrev pub after_remount : Mounts → Path → Flags → Result Mounts ℕ
after_remount mounts place flags = remounted place flags (mount_at place mounts)

-- the first mount, at `/`, with its flags replaced, whatever flags it keeps: a step of a launcher, not a call of a process
abbrev pub with_root_flags : Flags → Mounts → Mounts
with_root_flags flags [] = []
with_root_flags flags (mount ∷ mounts) = with_flags mount flags ∷ mounts
