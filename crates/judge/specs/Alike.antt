-- Two sites that agree outside a folder to which a launched service is blind: the service gets the same replies on both.
use Rattle.std.specs.Prelude.{◌≡◌, ℕ, List, None, Ok}
use Rattle.ceilings.specs.abs_path.Paths.{Path}
use Rattle.ceilings.specs.call_table.Facts.{IsWhole}
use Rattle.ceilings.specs.call_table.Table as calls
use Rattle.ceilings.specs.dropin_merge.declared.resolved.Resolved.{Resolved}
use Rattle.ceilings.specs.exec_settings.AreSettings.{AreSettings}
use Rattle.ceilings.specs.exec_settings.Refusals.{refusal_of}
use Rattle.ceilings.specs.exec_settings.declared.service.Settings.{Settings}
use Rattle.ceilings.specs.kern_mounts.Launch.{CanBeMounted}
use Rattle.ceilings.specs.kern_mounts.Split.{Table}
use Rattle.ceilings.specs.kernel_model.kernel_calls.Calls.{IsPath, AreCalls}
use Rattle.ceilings.specs.kernel_model.declared.kernel_calls.call.Call.{Call}
use Rattle.ceilings.specs.kernel_model.Runs.{replies}
use Rattle.ceilings.specs.kernel_laws.Denied.{IsBlind}
use Rattle.ceilings.specs.kernel_model.World.{World}
use Rattle.ceilings.specs.launcher.Answers.{launch_with}
use Rattle.ceilings.specs.launcher.Launch.{Launched}
use Rattle.ceilings.specs.mount_plan.Answers.{Plans}
use Rattle.ceilings.specs.mount_plan.Host.{host_of}
use Rattle.ceilings.specs.path_settings.Mentioned.{AreKept}
use Rattle.ceilings.specs.site_table.Table.{Site, IsSite}
use Rattle.judge.specs.Sites.{AgreeForUnit}
use Rattle.judge.specs.Worlds.{with_site}

-- a service of the unit on a site. The table and the site are as they are read. The unit is not refused and has these settings, whose
-- paths are as they are kept. Their plan is not refused and is this one, which can be mounted. The launch with the bytes of these
-- programs, which need not match the filters, ends in this world
pub record IsServiceOf (unit : Resolved) (table : calls.Table) (site : Site) (made : Settings) (plan : Table) (programs : List (List ℕ)) (last : World) (steps : ℕ) : Type 0 where
  pub whole : IsWhole table
  pub is_site : IsSite site
  pub accepted : refusal_of unit table site ≡ None
  pub settings : AreSettings unit table site made
  pub mentions : AreKept made.mentions
  pub program : IsPath made.program
  pub planned : Plans (host_of site) made.mentions (Ok plan)
  pub mounts : CanBeMounted (host_of site) plan
  pub launches : launch_with table site made plan programs ≡ Launched last steps

-- on the other site the unit is not refused either and has the same settings; their plan is not refused either and is the same. The
-- launch with the same programs takes the same number of steps and leaves the same world except for the site, and every list of calls has
-- the same replies
pub record IsAlike (unit : Resolved) (table : calls.Table) (other : Site) (made : Settings) (plan : Table) (programs : List (List ℕ)) (last : World) (steps : ℕ) : Type 0 where
  pub accepted : refusal_of unit table other ≡ None
  pub settings : AreSettings unit table other made
  pub planned : Plans (host_of other) made.mentions (Ok plan)
  pub launches : launch_with table other made plan programs ≡ Launched (with_site other last) steps
  pub replies : (calls : List Call) → AreCalls calls → replies (with_site other last) calls ≡ replies last calls

-- a service that is blind to a folder is the same on every other site that agrees outside the folder for its unit. The folder is any path:
-- neither site need have a row there
abbrev pub BlindToOthers : Type 0
BlindToOthers = (folder : Path) (unit : Resolved) (table : calls.Table) (site other : Site) (made : Settings) (plan : Table)
    (programs : List (List ℕ)) (last : World) (steps : ℕ)
    → IsServiceOf unit table site made plan programs last steps → IsSite other → IsBlind last folder
    → AgreeForUnit folder unit site other
    → IsAlike unit table other made plan programs last steps
