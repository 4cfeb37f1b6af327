-- Where a row of a site can be found, on the tables that a power makes of one (path_resolution(7), mount_namespaces(7)).
use Rattle.std.specs.Prelude.{◌≡◌, ℕ, ◌<◌, ◌^◌, Bool, true, Option, Ok, map, option_map}
use Rattle.kernel_laws.specs.abs_path.Paths.{Path}
use Rattle.kernel_laws.specs.site_table.declared.row.Row.{Row}
use Rattle.kernel_laws.specs.site_table.Kinds.{is_dir}
use Rattle.kernel_laws.specs.site_table.Table.{Site, kind_at}
use Rattle.kernel_laws.specs.kern_mounts.Finds.{row, finds}
use Rattle.kernel_laws.specs.kern_mounts.Mounts.{plain}
use Rattle.kernel_laws.specs.kern_mounts.Split.{Table}
use Rattle.kernel_laws.specs.kern_mounts.Unmounts.{Unmounts}
use Rattle.kernel_laws.specs.kernel_model.kern_files.Looking.{flags_at}
use Rattle.kernel_laws.specs.kernel_model.kern_files.MountCall.{after_mount}
use Rattle.kernel_laws.specs.kernel_model.kernel_calls.Calls.{IsPath}
use Rattle.kernel_laws.specs.kern_mounts.declared.step.Flags.{Flags}
use Rattle.kernel_laws.specs.declared.question_types.power.Power.{Power}
use Rattle.kernel_laws.specs.declared.question_types.power.Power.TheVariants.{None as Nowise, Unmount as Unmounting, Mount as Mounting}

-- whether the site has a row at a path, and then whether it is a directory
abbrev pub dirs_of : Site → Path → Option Bool
dirs_of site path = option_map is_dir (kind_at site.rows path)

-- a path that a call can name finds the row, on a mount whose flags pass the test
pub record FindsRow (rows : Path → Option Row) (table : Table) (test : Flags → Bool) (target : Row) : Type 0 where
  pub path : Path
  pub can_be_named : IsPath path
  pub is_found : finds rows table path ≡ row target
  pub is_allowed : test (flags_at table path) ≡ true

-- what any calls of mount(2) make of a table of mounts that are not locked, each of them done
pub data Mounts (rows : Path → Option Row) : Table → Table → Type 0 where
  still : {table : Table} → Mounts rows table table
  then_one : {table next last : Table} (source target : Path) (flags : ℕ) → IsPath source → IsPath target → flags < 2 ^ 32
      → after_mount rows (map plain table) source target flags ≡ Ok (map plain next) → Mounts rows next last → Mounts rows table last

-- what a power makes of a table: the table alone, what calls of umount2(2) make of it, or what calls of mount(2) make of it
abbrev pub Makes : Power → (Path → Option Row) → Table → Table → Type 0
Makes Nowise rows table now = now ≡ table
Makes Unmounting rows table now = Unmounts table now
Makes Mounting rows table now = Mounts rows table now

-- some path finds the row on some table that the power makes of this one
abbrev pub CanBeFound : Power → (Path → Option Row) → Table → (Flags → Bool) → Row → Type 0
CanBeFound power rows table test target = (now : Table) × Makes power rows table now × FindsRow rows now test target
