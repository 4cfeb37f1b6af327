-- How calls of mount(2) show the whole host: a bind of `/`, and a remount of it with other flags.
use Rattle.std.specs.Prelude.{◌≡◌, ℕ, true, false, [], ◌++◌, map, Some, Ok}
use Rattle.kernel_laws.specs.kern_mounts.Finds.{row, finds}
use Rattle.kernel_laws.specs.abs_path.Paths.{proc}
use Rattle.kernel_laws.specs.kern_mounts.Launch.{CanBeMounted}
use Rattle.kernel_laws.specs.kern_mounts.Mounts.{plain}
use Rattle.kernel_laws.specs.kern_mounts.Split.{Table}
use Rattle.kernel_laws.specs.site_table.declared.row.Row.{Row}
use Rattle.kernel_laws.specs.site_table.Table.{Site, IsSite, row_at}
use Rattle.kernel_laws.specs.kernel_model.kern_files.Bits.{has_all}
use Rattle.kernel_laws.specs.kernel_model.kern_files.Looking.{flags_at}
use Rattle.kernel_laws.specs.kernel_model.kern_files.MountCall.{ms_bind, ms_remount_bind, has_other_kind, flags_of, after_mount}
use Rattle.kernel_laws.specs.kernel_model.kernel_calls.Calls.{IsPath}
use Rattle.reach_paths.specs.Finding.{dirs_of}

-- a path that a call can name finds the row below the folder of the processes, on a mount with the flags of this word
pub record IsBelowProc (site : Site) (table : Table) (flags : ℕ) (target : Row) : Type 0 where
  pub can_be_named : IsPath (proc ++ target.path)
  pub is_found : finds (row_at site.rows) table (proc ++ target.path) ≡ row target
  pub flags_are : flags_at table (proc ++ target.path) ≡ flags_of flags

-- the two calls are done, one after the other, and then each row is found
pub record MountedTwice (site : Site) (table : Table) (flags : ℕ) : Type 0 where
  pub middle : Table
  pub last : Table
  pub bound : after_mount (row_at site.rows) (map plain table) [] proc ms_bind ≡ Ok (map plain middle)
  pub remounted : after_mount (row_at site.rows) (map plain middle) [] proc flags ≡ Ok (map plain last)
  pub each_row : (target : Row) → row_at site.rows target.path ≡ Some target → IsBelowProc site last flags target

-- by any word of flags that remounts a single mount, MS_REMOUNT with MS_BIND
abbrev pub MountedTwiceShowsAll : Type 0
MountedTwiceShowsAll = (site : Site) (table : Table) (flags : ℕ)
    → IsSite site → CanBeMounted (dirs_of site) table → has_all ms_remount_bind flags ≡ true → has_other_kind flags ≡ false
    → MountedTwice site table flags
