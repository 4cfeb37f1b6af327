-- mount(2) of a process that may mount: its errors in order, and the mounts after it.
use Rattle.std.specs.Prelude.{ℕ, ◌&&◌, ◌||◌, not, Bool, true, Option, Some, None, Result, Ok, Err, if◌then◌else◌}
use Rattle.site_table.specs.abs_path.Paths.{Path, is_root}
use Rattle.site_table.specs.abs_path.Prefix.{is_same}
use Rattle.kern_mounts.specs.linux_numbers.Errnos.{ebusy, enotdir, einval}
use Rattle.site_table.specs.declared.row.Row.{Row}
use Rattle.site_table.specs.Kinds.{is_dir}
use Rattle.kern_mounts.specs.Entry.{entry_of}
use Rattle.kern_mounts.specs.Finds.{Found, row, empty_directory, nothing, finds}
use Rattle.kern_mounts.specs.Mounts.{Mounts, steps_of}
use Rattle.kern_mounts.specs.Push.{after_push}
use Rattle.kern_mounts.specs.Bind.{after_bind}
use Rattle.kern_mounts.specs.Remount.{after_remount}
use Rattle.kern_mounts.specs.Split.{Table}
use Rattle.kern_mounts.specs.declared.step.Flags.{Flags}
use Rattle.kern_mounts.specs.declared.step.What.{What}
use Rattle.kern_mounts.specs.declared.step.What.TheVariants.{Host, Empty, Hidden}
use Rattle.kern_mounts.specs.declared.step.MountStep.{MountStep}
use Rattle.kernel_model.specs.kern_files.Bits.{has_some, has_all}

-- MS_RDONLY: the mount is read-only
abbrev pub ms_rdonly : ℕ
ms_rdonly = 1

-- MS_NOSUID: set-id bits and file capabilities have no effect there
abbrev pub ms_nosuid : ℕ
ms_nosuid = 2

-- MS_NOEXEC: no program there can be executed
abbrev pub ms_noexec : ℕ
ms_noexec = 8

-- MS_REMOUNT: changes the flags of a mount
abbrev pub ms_remount : ℕ
ms_remount = 32

-- MS_BIND: shows at the target what the source shows
abbrev pub ms_bind : ℕ
ms_bind = 4096

-- MS_REC: includes the mounts below the source
abbrev pub ms_rec : ℕ
ms_rec = 16384

-- MS_REMOUNT and MS_BIND: the flags of a single mount
abbrev pub ms_remount_bind : ℕ
ms_remount_bind = 4128

-- MS_MOVE, MS_UNBINDABLE, MS_PRIVATE, MS_SLAVE and MS_SHARED, which are not modelled
abbrev pub has_other_kind : ℕ → Bool
has_other_kind flags = has_some 0x1e_2000 flags

-- the flags of a new or remounted mount
abbrev pub flags_of : ℕ → Flags
flags_of flags =
    record { read_only = has_some ms_rdonly flags; no_exec = has_some ms_noexec flags; no_suid = has_some ms_nosuid flags }

-- the lookup found a directory or a file; or nothing, with the errno
abbrev pub kind_found : Found Row → Result Bool ℕ
kind_found (row found) = Ok (is_dir found.kind)
kind_found empty_directory = Ok true
kind_found (nothing errno) = Err errno

-- the place of a hidden entry can be a target, although no process may look at it
abbrev pub hidden_kind : Path → What → Path → Option Bool
hidden_kind place (Hidden directory) path = if is_same place path then Some directory else None
hidden_kind place (Host source) path = None
hidden_kind place Empty path = None

abbrev pub hidden_at : Path → Option MountStep → Option Bool
hidden_at path None = None
hidden_at path (Some step) = hidden_kind step.place step.what path

abbrev pub or_found : Option Bool → Result Bool ℕ → Result Bool ℕ
or_found (Some directory) found = Ok directory
or_found None found = found

-- the target is a directory or a file, or the errno if it is not found
abbrev pub target_kind : (Path → Option Row) → Table → Path → Result Bool ℕ
target_kind rows table path = or_found (hidden_at path (entry_of table path)) (kind_found (finds rows table path))

-- both are directories or neither is
abbrev pub is_same_kind : Bool → Bool → Bool
is_same_kind one other = (one && other) || (not one && not other)

-- MS_BIND, given the lookup of the source: its errno if it is not found; ENOTDIR if only one of source and target is a
-- directory
abbrev pub bind_found : Mounts → Path → Path → Bool → Bool → Result Bool ℕ → Result Mounts ℕ
bind_found mounts source target recursive directory (Err errno) = Err errno
bind_found mounts source target recursive directory (Ok own) =
    if is_same_kind own directory then after_bind mounts source target recursive else Err enotdir

-- a mount, given the lookup of the target: a bind, or an empty file system on a directory
abbrev pub mount_onto : (Path → Option Row) → Mounts → Path → Path → ℕ → Result Bool ℕ → Result Mounts ℕ
mount_onto rows mounts source target flags (Err errno) = Err errno
mount_onto rows mounts source target flags (Ok directory) =
    if has_some ms_bind flags then
    bind_found mounts source target (has_some ms_rec flags) directory (kind_found (finds rows (steps_of mounts) source))
    else if not directory then Err enotdir
    else after_push mounts (record { place = target; what = Empty; flags = flags_of flags })

-- EINVAL for a kind of mount that is not modelled; a remount if MS_REMOUNT and MS_BIND are set (EINVAL without MS_BIND); EBUSY
-- for the root; else a mount on the target
abbrev pub after_mount : (Path → Option Row) → Mounts → Path → Path → ℕ → Result Mounts ℕ
after_mount rows mounts source target flags =
    if has_other_kind flags then Err einval
    else if has_all ms_remount_bind flags then after_remount mounts target (flags_of flags)
    else if has_some ms_remount flags then Err einval
    else if is_root target then Err ebusy
    else mount_onto rows mounts source target flags (target_kind rows (steps_of mounts) target)
