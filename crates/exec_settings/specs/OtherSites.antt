-- The few facts of a site that decide about a unit: about its refusal and its settings.
use Rattle.std.specs.Prelude.{◌≡◌, List}
use Rattle.std.specs.List.{AllByRecursion}
use Rattle.filter_settings.specs.call_table.Table.{Table}
use Rattle.cred_settings.specs.dropin_merge.declared.resolved.Resolved.{Resolved}
use Rattle.mount_settings.specs.Settings.{deciding}
use Rattle.mount_settings.specs.Written.{unit_written}
use Rattle.mount_settings.specs.abs_path.Paths.{Path}
use Rattle.cred_settings.specs.site_table.Table.{Site, kind_at}
use Rattle.exec_settings.specs.AreSettings.{AreSettings}
use Rattle.exec_settings.specs.Mounts.{unit_switches}
use Rattle.exec_settings.specs.Refusals.{refusal_of}
use Rattle.exec_settings.specs.Search.{searched_by}
use Rattle.exec_settings.specs.declared.service.Settings.{Settings}

-- the paths that keys in force imply, even if a site does not have them (systemd.exec(5), Sandboxing)
abbrev pub implied_by : Resolved → List Path
implied_by unit = deciding unit (unit_switches unit) (unit_written unit)

-- both sites have the same ids and accounts. They have a row of the same kind, or no row, at each path that a key in force implies and
-- at each path at which the program is looked up
pub record AreSameFor (unit : Resolved) (site other : Site) : Type 0 where
  pub dynamic_uid : other.dynamic_uid ≡ site.dynamic_uid
  pub users : other.users ≡ site.users
  pub groups : other.groups ≡ site.groups
  pub implied : AllByRecursion (λ path. kind_at other.rows path ≡ kind_at site.rows path) (implied_by unit)
  pub searched : AllByRecursion (λ path. kind_at other.rows path ≡ kind_at site.rows path) (searched_by unit)

-- such sites give the unit the same settings
abbrev pub SettingsRestOnFew : Type 0
SettingsRestOnFew = (unit : Resolved) (table : Table) (site other : Site) (made : Settings) → AreSameFor unit site other
    → AreSettings unit table site made → AreSettings unit table other made

-- such sites refuse the unit for the same reason, or not at all
abbrev pub RefusalRestsOnFew : Type 0
RefusalRestsOnFew = (unit : Resolved) (table : Table) (site other : Site) → AreSameFor unit site other
    → refusal_of unit table other ≡ refusal_of unit table site
