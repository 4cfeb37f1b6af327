-- The file at a path, described by the host's files and the mounts over them (path_resolution(7), mount_namespaces(7)).
use Rattle.std.specs.Prelude.{◌≡◌, Bool, true, false, Option, Some}
use Rattle.site_table.specs.abs_path.Paths.{Path}
use Rattle.site_table.specs.declared.row.Row.{Row}
use Rattle.site_table.specs.Kinds.{is_dir, is_exe, is_dev}
use Rattle.kern_mounts.specs.Entry.{entry_of}
use Rattle.kern_mounts.specs.Finds.{host_place}
use Rattle.kern_mounts.specs.Split.{Table}
use Rattle.kern_mounts.specs.declared.step.MountStep.{MountStep}
use Rattle.kern_mounts.specs.declared.step.What.TheVariants.{Empty, Hidden}
use Rattle.kernel_model.specs.kern_files.Looking.{flags_at}
use Rattle.kernel_model.specs.kern_files.Executing.{marks_of}
use Rattle.kernel_model.specs.declared.kern_files.program.Program.{Program}

-- the path shows a path of the host, and the host has this row there
pub record ShowsRow (rows : Path → Option Row) (table : Table) (path : Path) (found : Row) : Type 0 where
  pub place : Path
  pub on_host : host_place table path ≡ Some place
  pub stands : rows place ≡ Some found

-- the path's mount is an empty file system, and the path is its place
pub record IsEmptyPlace (table : Table) (path : Path) : Type 0 where
  pub step : MountStep
  pub entry : entry_of table path ≡ Some step
  pub empty : step.what ≡ Empty
  pub here : step.place ≡ path

-- the path's mount hides what is there
pub record IsHidden (table : Table) (path : Path) : Type 0 where
  pub step : MountStep
  pub directory : Bool
  pub entry : entry_of table path ≡ Some step
  pub hidden : step.what ≡ Hidden directory

-- a file that is not a directory, on a mount that is not read-only unless the file is a device
pub record IsWritableFile (rows : Path → Option Row) (table : Table) (path : Path) : Type 0 where
  pub found : Row
  pub shown : ShowsRow rows table path found
  pub file : is_dir found.kind ≡ false
  pub writable : is_dev found.kind ≡ false → (flags_at table path).read_only ≡ false

-- an executable file on a mount that is not noexec, with its marks, and whether that mount is nosuid
pub record IsProgram (rows : Path → Option Row) (table : Table) (path : Path) (program : Program) : Type 0 where
  pub found : Row
  pub shown : ShowsRow rows table path found
  pub executable : is_exe found.kind ≡ true
  pub leave : (flags_at table path).no_exec ≡ false
  pub marks : marks_of found ≡ program.file
  pub no_suid : (flags_at table path).no_suid ≡ program.no_suid
