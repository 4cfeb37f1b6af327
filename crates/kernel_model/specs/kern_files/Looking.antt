-- The results of calls that look at a path: they depend on the row at the path and on the flags of the path's mount
-- (path_resolution(7), stat(2), open(2), truncate(2)).
use Rattle.std.specs.Prelude.{ℕ, ◌==◌, ◌&&◌, ◌||◌, not, Bool, List, Option, Some, None, Result, Ok, Err, if◌then◌else◌}
use Rattle.std.specs.Int.RustNames.{bit_and}
use Rattle.site_table.specs.abs_path.Paths.{Path}
use Rattle.kern_mounts.specs.linux_numbers.Errnos.{eisdir, einval, erofs}
use Rattle.site_table.specs.declared.row.Row.{Row}
use Rattle.site_table.specs.Kinds.{is_dir, is_dev}
use Rattle.kern_mounts.specs.Entry.{entry_of}
use Rattle.kern_mounts.specs.Finds.{Found, row, empty_directory, nothing}
use Rattle.kern_mounts.specs.Table.{no_flags}
use Rattle.kern_mounts.specs.declared.step.Flags.{Flags}
use Rattle.kern_mounts.specs.declared.step.MountStep.{MountStep}

-- the flags of the mount that a path is on, mount(2)
abbrev pub flags_by : Option MountStep → Flags
flags_by None = no_flags
flags_by (Some step) = step.flags

abbrev pub flags_at : List MountStep → Path → Flags
flags_at table path = flags_by (entry_of table path)

-- this value, if the rule does not refuse the call
abbrev pub valued : ℕ → Result (Unit {0}) ℕ → Result ℕ ℕ
valued value (Ok done) = Ok value
valued value (Err errno) = Err errno

-- stat(2), access(2), and open(2) for reading: they succeed if the lookup finds something
abbrev pub see_answer : ℕ → Found Row → Result ℕ ℕ
see_answer value (row found) = Ok value
see_answer value empty_directory = Ok value
see_answer value (nothing errno) = Err errno

-- a read-only mount keeps what is on it from being written, but not the device to which a node leads
abbrev pub is_kept : Flags → Row → Bool
is_kept flags found = flags.read_only && not (is_dev found.kind)

-- open(2) for writing, creat(2), truncate(2): EISDIR for a directory, then EROFS for what a read-only mount keeps
abbrev pub write_answer : ℕ → Flags → Found Row → Result ℕ ℕ
write_answer value flags (row found) =
    if is_dir found.kind then Err eisdir else if is_kept flags found then Err erofs else Ok value
write_answer value flags empty_directory = Err eisdir
write_answer value flags (nothing errno) = Err errno

-- O_ACCMODE: O_RDONLY is 0, O_WRONLY 1 and O_RDWR 2; 3 is not valid
abbrev pub access_mode : ℕ → ℕ
access_mode flags = bit_and flags 3

abbrev pub is_reading : ℕ → Bool
is_reading flags = access_mode flags == 0 || access_mode flags == 2

abbrev pub is_writing : ℕ → Bool
is_writing flags = access_mode flags == 1 || access_mode flags == 2

-- open(2): EINVAL if the mode is not valid; else 3, the first descriptor after the three standard ones
abbrev pub open_answer : ℕ → Flags → Found Row → Result ℕ ℕ
open_answer flags entry found =
    if access_mode flags == 3 then Err einval
    else if is_writing flags then write_answer 3 entry found
    else see_answer 3 found
