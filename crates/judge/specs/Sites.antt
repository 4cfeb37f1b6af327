-- Sites that agree outside a folder.
use Rattle.std.specs.Prelude.{◌≡◌, not, List, filter}
use Rattle.std.specs.List.{AllByRecursion}
use Rattle.ceilings.specs.abs_path.Paths.{Path}
use Rattle.ceilings.specs.abs_path.Prefix.{is_below}
use Rattle.ceilings.specs.dropin_merge.declared.resolved.Resolved.{Resolved}
use Rattle.ceilings.specs.exec_settings.Mounts.{unit_mentions}
use Rattle.ceilings.specs.exec_settings.OtherSites.{implied_by}
use Rattle.ceilings.specs.exec_settings.Search.{searched_by}
use Rattle.ceilings.specs.mount_plan.Host.{host_of}
use Rattle.ceilings.specs.site_table.Table.{Site, kind_at}
use Rattle.ceilings.specs.site_table.declared.row.Row.{Row}
use Rattle.ceilings.specs.mount_plan.Resting.{HaveSameSources}

-- the rows that do not lie strictly below the folder
abbrev pub rows_outside : Path → List Row → List Row
rows_outside folder rows = filter (λ row. not (is_below row.path folder)) rows

-- the same ids and accounts, as many user namespaces, rings or none, and the same rows except strictly below the folder
pub record AgreeOutside (folder : Path) (site other : Site) : Type 0 where
  pub dynamic_uid : other.dynamic_uid ≡ site.dynamic_uid
  pub spaces : other.user_namespaces ≡ site.user_namespaces
  pub systemd : other.systemd ≡ site.systemd
  pub io_uring : other.io_uring ≡ site.io_uring
  pub users : other.users ≡ site.users
  pub groups : other.groups ≡ site.groups
  pub rows : rows_outside folder other.rows ≡ rows_outside folder site.rows

-- sites that agree outside a folder for a unit. Each path that a key in force implies, and each at which the program is looked for, is a
-- row of one kind in both or a row of neither.
-- The source of each bind, written or implied, is a directory in both, a row of another kind in both, or a row of neither
pub record AgreeForUnit (folder : Path) (unit : Resolved) (site other : Site) : Type 0 where
  pub outside : AgreeOutside folder site other
  pub implied : AllByRecursion (λ path. kind_at other.rows path ≡ kind_at site.rows path) (implied_by unit)
  pub searched : AllByRecursion (λ path. kind_at other.rows path ≡ kind_at site.rows path) (searched_by unit)
  pub sources : HaveSameSources (host_of site) (host_of other) (unit_mentions unit site)
