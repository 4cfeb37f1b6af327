-- Which assignments in force of a unit deny a question.
use Rattle.std.specs.Prelude.{ℕ, List, Ok}
use Rattle.why_command.specs.deciding_lines.Least.{AreNeeded, IsPartOf}
use Rattle.asked_service.specs.launching.Starting.{StartsAs}
use Rattle.asked_service.specs.launcher.declared.launched.Launched.{Launched as Service}
use Rattle.asked_service.specs.dropin_merge.declared.unit_values.value.Place.{Place}
use Rattle.why_command.specs.deciding_lines.Bare.{bare_places}
use Rattle.why_command.specs.deciding_lines.Tried.{IsDeniedWithout, IsNotLaunched, IsOpenWithout, IsShutWithout, Tried, inputs_without}
use Rattle.why_command.specs.deciding_lines.unit_lines.Without.{all_but}
use Rattle.why_command.specs.declared.deciding_lines.reason.Reason.{Reason}
use Rattle.why_command.specs.declared.deciding_lines.reason.Reason.TheVariants as reason

-- without all of them the question is open; and with any one put back it is denied again, or the unit is not launched
pub record AreDeciding (tried : Tried) (places : List Place) : Type 0 where
  pub is_open : IsOpenWithout tried places
  pub each_matters : AreNeeded (IsShutWithout tried) places

-- if of some lines these stay, the unit is launched to this service
abbrev pub IsLaunchedWith : Tried → List Place → List Place → Service → Type 0
IsLaunchedWith tried lines kept service = StartsAs (inputs_without tried.inputs (all_but kept lines)) (Ok service)

-- it is not launched
abbrev pub IsNotLaunchedWith : Tried → List Place → List Place → Type 0
IsNotLaunchedWith tried lines kept = (line : List ℕ) × IsNotLaunched tried.name (inputs_without tried.inputs (all_but kept lines)) line

-- the unit is launched if of these lines only the needed ones stay, and it is not launched without any one of them too
pub record AreNeededOf (tried : Tried) (lines needed : List Place) : Type 0 where
  pub of_them : IsPartOf needed lines
  pub service : Service
  pub launched : IsLaunchedWith tried lines needed service
  pub each_is_needed : AreNeeded (IsNotLaunchedWith tried lines) needed

-- which of the lines can go at once: all; or, if the unit is not launched without all of them, all but those that it needs
pub data CanGo (tried : Tried) (lines : List Place) : List Place → Type 0 where
  all_go : CanGo tried lines lines
  needed_stay : (line : List ℕ) → IsNotLaunched tried.name (inputs_without tried.inputs lines) line → (needed : List Place)
      → AreNeededOf tried lines needed → CanGo tried lines (all_but needed lines)

-- Nothing: the question is denied also without all of these lines. Lines: it is open without all that can go, and these are some of
-- them. Not launched: the unit is not launched without all of them, and denied without all but those that it needs
abbrev pub IsReasonAt : Tried → List Place → Reason → Type 0
IsReasonAt tried lines reason.Nothing = IsDeniedWithout tried lines
IsReasonAt tried lines (reason.Lines found) = (gone : List Place) × CanGo tried lines gone × IsOpenWithout tried gone
    × IsPartOf found.items gone × AreDeciding tried found.items
IsReasonAt tried lines (reason.NotLaunched line) = IsNotLaunched tried.name (inputs_without tried.inputs lines) line.items
    × ((needed : List Place) × AreNeededOf tried lines needed × IsDeniedWithout tried (all_but needed lines))

-- the lines are all but those that say what is launched
abbrev pub IsReason : Tried → Reason → Type 0
IsReason tried told = IsReasonAt tried (bare_places tried.inputs.unit) told
