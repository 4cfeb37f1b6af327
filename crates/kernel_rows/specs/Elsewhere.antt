-- The law of two sites for the service of a unit on one of them.
use Rattle.std.specs.Prelude.{◌≡◌, ℕ, List, []}
use Rattle.asked_service.specs.abs_path.Paths.{Path, text_of}
use Rattle.asked_service.specs.exec_settings.declared.service.Settings.{Settings}
use Rattle.asked_service.specs.kern_mounts.Split.{Table}
use Rattle.asked_service.specs.kernel_laws.Denied.{IsBlind}
use Rattle.asked_service.specs.kernel_model.World.{World}
use Rattle.asked_service.specs.launcher.Answers.{given_bytes, launch_with}
use Rattle.asked_service.specs.launcher.Launch.{Launched}
use Rattle.asked_service.specs.launcher.declared.launched.Launched.{Launched as Service}
use Rattle.asked_service.specs.judge.Alike.{IsAlike}
use Rattle.asked_service.specs.judge.Sites.{AgreeForUnit}
use Rattle.kernel_rows.specs.declared.alike.asked.Asked.{Asked}

-- a service that was launched with these programs is the same on the other site, where that agrees outside the folder
abbrev pub IsSameThere : Asked → Settings → Table → List (List ℕ) → Path → World → ℕ → Type 0
IsSameThere asked made plan programs folder last steps =
    AgreeForUnit folder asked.unit.now asked.site.now asked.other.now
    → IsAlike asked.unit.now asked.calls.now asked.other.now made plan programs last steps

-- whichever programs they are, if the service is blind to the folder
abbrev pub AreSameThere : Asked → Settings → Table → List (List ℕ) → Path → Type 0
AreSameThere asked made plan programs folder =
    (last : World) (steps : ℕ) → launch_with asked.calls.now asked.site.now made plan programs ≡ Launched last steps → IsBlind last folder
    → IsSameThere asked made plan programs folder last steps

-- the service is blind to the folder that is asked for, and is the same on the other site; and so is one that is launched without any
-- filter and is blind to it
pub record IsBlindThere (asked : Asked) (made : Settings) (plan : Table) (service : Service) : Type 0 where
  pub folder : Path
  pub named : text_of folder ≡ asked.folder.now
  pub blind : IsBlind service.world folder
  pub same : IsSameThere asked made plan (given_bytes service.filters) folder service.world service.steps
  pub unfiltered : AreSameThere asked made plan [] folder
