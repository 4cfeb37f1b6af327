-- Worlds on sites that agree outside a folder, and launches on them.
use Rattle.std.specs.Prelude.{◌≡◌, ℕ, ◌<◌, List, Some}
use Rattle.ceilings.specs.abs_path.Paths.{Path}
use Rattle.ceilings.specs.call_table.Facts.{IsWhole}
use Rattle.ceilings.specs.call_table.Table as calls
use Rattle.ceilings.specs.kern_mounts.Launch.{CanBeMounted}
use Rattle.ceilings.specs.kern_mounts.Split.{Table}
use Rattle.ceilings.specs.kernel_model.kernel_calls.Calls.{IsPath, AreCalls}
use Rattle.ceilings.specs.kernel_model.declared.kernel_calls.call.Call.{Call}
use Rattle.ceilings.specs.kernel_model.Runs.{run, replies}
use Rattle.ceilings.specs.kernel_model.World.{World, living_of, table_of}
use Rattle.ceilings.specs.kernel_model.declared.process.Process.{Process}
use Rattle.ceilings.specs.kernel_laws.Blind.{IsSmall, IsFolder}
use Rattle.ceilings.specs.kernel_laws.Denied.{IsBlind}
use Rattle.ceilings.specs.linux_numbers.Limits.{no_id}
use Rattle.ceilings.specs.mount_plan.Host.{host_of}
use Rattle.ceilings.specs.mount_plan.Resting.{ShowsNothingOf}
use Rattle.ceilings.specs.site_table.Table.{Site}
use Rattle.ceilings.specs.launcher.Launch.{Wanted, Launched, launch}
use Rattle.ceilings.specs.launcher.Launches.{KeepsForUser}
use Rattle.judge.specs.Sites.{AgreeOutside}

-- the world on another site
abbrev pub with_site : Site → World → World
with_site site world = record world { site = site }

-- the calls have the same replies there, and lead to the same world except for the site
pub record IsSameRun (world : World) (other : Site) (calls : List Call) : Type 0 where
  pub replies : replies (with_site other world) calls ≡ replies world calls
  pub runs : run (with_site other world) calls ≡ with_site other (run world calls)

-- what lies below a folder changes no reply in a world that is blind to the folder
abbrev pub RepliesAreBlind : Type 0
RepliesAreBlind = (folder : Path) (other : Site) (world : World) (calls : List Call)
    → AgreeOutside folder world.site other → IsBlind world folder → AreCalls calls → IsSameRun world other calls

-- a launch that leaves such a world leaves it there too, after the same number of steps
abbrev pub LaunchIsBlind : Type 0
LaunchIsBlind = (folder : Path) (table : calls.Table) (site other : Site) (wanted : Wanted) (plan : Table) (last : World) (steps : ℕ)
    → IsWhole table → CanBeMounted (host_of site) plan → wanted.uid < no_id → KeepsForUser wanted → IsPath wanted.program
    → AgreeOutside folder site other → IsBlind last folder → launch table site wanted plan ≡ Launched last steps
    → launch table other wanted plan ≡ Launched (with_site other last) steps

-- a living process of a blind world, with a mount table no larger than a plan, sees neither the folder nor anything below it;
-- the folder's path is a path that a row may have
abbrev pub BlindIsShownNothing : Type 0
BlindIsShownNothing = (folder : Path) (world : World) (pid : ℕ) (process : Process)
    → living_of world pid ≡ Some process → IsSmall (table_of world process.namespace) → IsFolder folder → IsBlind world folder
    → ShowsNothingOf (table_of world process.namespace) folder
