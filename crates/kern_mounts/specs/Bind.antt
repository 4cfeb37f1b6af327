-- mount(2), MS_BIND and MS_REC: the mounts after a bind, or the errno of a refused one. The source and the target have been
-- found already.
use Rattle.std.specs.Prelude.{ℕ, [], ◌∷◌, ◌++◌, ◌&&◌, Bool, true, false, not, filter, map, length, nat_lt, Option, Some, None, Result, Err}
use Rattle.std.specs.Prelude.{if◌then◌else◌}
use Rattle.std.specs.List.{list_any}
use Rattle.abs_path.specs.Paths.{Path, text_of}
use Rattle.abs_path.specs.Prefix.{rest_of}
use Rattle.linux_numbers.specs.Errnos.{einval, enametoolong}
use Rattle.kern_mounts.specs.declared.step.What.{What}
use Rattle.kern_mounts.specs.declared.step.What.TheVariants.{Host, Empty, Hidden}
use Rattle.kern_mounts.specs.declared.step.Mount.{Mount}
use Rattle.kern_mounts.specs.declared.step.MountStep.{MountStep}
use Rattle.kern_mounts.specs.Entry.{entry_of}
use Rattle.kern_mounts.specs.Mounts.{Mounts, stands_below}
use Rattle.kern_mounts.specs.MountAt.{mount_at}
use Rattle.kern_mounts.specs.Split.{Table, SplitOf, is_below}
use Rattle.kern_mounts.specs.Push.{grown}

-- an entry below the source, moved to the same place below the target
abbrev pub moved : Path → Path → MountStep → MountStep
moved source target entry = record entry { place = target ++ rest_of source entry.place }

-- a mount below the source, moved in the same way; it keeps its lock and its kept flags
abbrev pub moved_mount : Path → Path → Mount → Mount
moved_mount source target mount = record mount { step = moved source target mount.step }

-- the copies of a recursive bind, in order: of the mounts after the source's, those strictly below the source
abbrev pub copies : Bool → Path → Path → Mounts → Mounts
copies recursive source target later = if recursive then map (moved_mount source target) (filter (stands_below source) later) else []

-- the path's text has more than 512 bytes, the limit for a path here
abbrev pub is_long : Path → Bool
is_long path = nat_lt 512 (length (text_of path))

-- the mount's place is too long for a mount
abbrev pub is_too_long : Mount → Bool
is_too_long mount = is_long mount.step.place

-- a recursive bind would copy the entry to a place that is too long
abbrev pub goes_too_far : Path → Path → MountStep → Bool
goes_too_far source target entry = is_below source entry && is_long (target ++ rest_of source entry.place)

-- what the source shows: on a host entry, the host's path of the source
abbrev pub object_at : Path → MountStep → What → What
object_at source entry (Host host) = Host (host ++ rest_of entry.place source)
object_at source entry Empty = Empty
object_at source entry (Hidden directory) = Hidden directory

-- the entry at the target: it shows what the source shows, with the flags of the source's entry
abbrev pub bound_entry : Path → Path → MountStep → MountStep
bound_entry source target entry = record { place = target; what = object_at source entry entry.what; flags = entry.flags }

-- the mount at the target: that entry, not locked; it keeps the flags that the source's mount keeps
abbrev pub bound_mount : Path → Path → Mount → Mount
bound_mount source target mount = record { step = bound_entry source target mount.step; locked = false; kept = mount.kept }

-- a locked mount that covers a part of what is strictly below the source
abbrev pub is_locked_below : Path → Mount → Bool
is_locked_below source mount = mount.locked && stands_below source mount

-- EINVAL if a bind that is not recursive would uncover what a locked mount covers; then ENAMETOOLONG if a copy's place is too
-- long; then ENOSPC if there would be too many mounts. Else the new mount is added after the others, followed by the copies
abbrev pub bound : Mounts → Path → Path → Bool → Option (SplitOf Mount) → Result Mounts ℕ
bound mounts source target recursive None = Err einval
bound mounts source target recursive (Some split) =
    if not recursive && list_any (is_locked_below source) split.later then Err einval
    else if list_any is_too_long (copies recursive source target split.later) then Err enametoolong
    else grown mounts (bound_mount source target split.entry ∷ copies recursive source target split.later)

abbrev pub after_bind : Mounts → Path → Path → Bool → Result Mounts ℕ
after_bind mounts source target recursive = bound mounts source target recursive (mount_at source mounts)

-- an entry can be bound at a path: it is not hidden, and if the host has it, its path on the host is not too long
abbrev pub can_show : What → Path → Path → Bool
can_show (Host host) place path = not (is_long (host ++ rest_of place path))
can_show Empty place path = true
can_show (Hidden directory) place path = false

abbrev pub can_show_at : Path → Option MountStep → Bool
can_show_at path None = false
can_show_at path (Some entry) = can_show entry.what entry.place path

-- the entry of the source can be bound there
abbrev pub can_bind : Table → Path → Bool
can_bind table source = can_show_at source (entry_of table source)
