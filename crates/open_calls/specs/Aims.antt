-- An aim: a row, what is needed of its mount, and the entry by which it is reached.
use Rattle.std.specs.Prelude.{◌≡◌, true, Some}
use Rattle.ceilings.specs.site_table.Table.{row_at}
use Rattle.open_calls.specs.chosen_calls.Exposing.{lead}
use Rattle.ceilings.specs.kernel_laws.Launched.{launch_of}
use Rattle.ceilings.specs.kernel_laws.Reach.{reaches_with}
use Rattle.ceilings.specs.kernel_model.World.{World}
use Rattle.ceilings.specs.reach_paths.Needs.{allows}
use Rattle.open_calls.specs.declared.exposing.Aim.{Aim}

-- the row belongs to the site, the power reaches it on such a mount, and the number names the entry that leads to it
pub record IsAim (world : World) (aim : Aim) : Type 0 where
  pub known : row_at world.site.rows aim.row.now.path ≡ Some aim.row.now
  pub reached : reaches_with aim.power (launch_of world).table aim.row.now.path (allows aim.need) ≡ true
  pub number : aim.at ≡ lead aim.power (launch_of world).table aim.row.now.path (allows aim.need)
