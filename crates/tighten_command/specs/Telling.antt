-- The text for a unit that is tightened, and for one that is not. If memory runs out, there is no text.
use Rattle.std.specs.Prelude.{ℕ, List, Result, Ok, Err}
use Rattle.asked_service.specs.unit_inputs.declared.command_answers.exit_status.ExitStatus.{ExitStatus}
use Rattle.asked_service.specs.unit_inputs.declared.command_answers.exit_status.ExitStatus.TheVariants.{Done, LaunchRefused, Refused}
use Rattle.asked_service.specs.unit_inputs.declared.command_answers.error.CommandError.{CommandError}
use Rattle.asked_service.specs.unit_inputs.declared.command_answers.error.CommandError.TheVariants as stop
use Rattle.asked_service.specs.exec_settings.declared.errors.SettingsError.{SettingsError}
use Rattle.asked_service.specs.launching.Launched.{IsNotLaunched}
use Rattle.asked_service.specs.declared.launching.refusal.Refusal.TheVariants as refusal
use Rattle.asked_service.specs.mount_plan.declared.error.PlanError.{PlanError}
use Rattle.asked_service.specs.plan_command.Refusals.{error_line}
use Rattle.tighten_command.specs.tightening.Tight.{Denies, IsTight, RefusesWish}
use Rattle.tighten_command.specs.tightening.Tried.{Tried}
use Rattle.tighten_command.specs.declared.tightening.tight.Tight.{Tight}
use Rattle.asked_service.specs.launching.Refusals.{launch_line}
use Rattle.asked_service.specs.launcher.declared.error.LaunchError.{LaunchError}
use Rattle.asked_service.specs.unit_inputs.SettingsRefusals.{settings_line}
use Rattle.tighten_command.specs.Lines.{keep_line, tight_text, wish_line}
use Rattle.asked_service.specs.unit_inputs.declared.command_answers.ready_text.ReadyText.{ReadyText}

-- The unit is tightened, and the text lists the items that can be added. Or nothing is added, because the unit itself has no
-- settings, no plan or no launch (a refused launch has a status of its own). Or nothing is added, because the unit itself
-- denies a question that is to be kept, or does not grant a wish.
pub data TellsTight (unit : List ℕ) (tried : Tried) : ExitStatus → List ℕ → Type 0 where
  tightened : (tight : Tight) → IsTight tried tight → TellsTight unit tried Done (tight_text tight)
  no_settings : (error : SettingsError) → IsNotLaunched tried.unit tried.table tried.site (refusal.Settings error)
      → TellsTight unit tried Refused (settings_line unit error)
  no_plan : (error : PlanError) → IsNotLaunched tried.unit tried.table tried.site (refusal.Plan error)
      → TellsTight unit tried Refused (error_line unit error)
  no_launch : (refused : LaunchError) → IsNotLaunched tried.unit tried.table tried.site (refusal.Launch refused)
      → TellsTight unit tried LaunchRefused (launch_line refused)
  denies : (number : ℕ) → Denies tried number → TellsTight unit tried Refused (keep_line unit number)
  refuses_wish : (number : ℕ) → RefusesWish tried number → TellsTight unit tried Refused (wish_line unit number)

-- what is ready, or the line of the refusal, is such, unless memory ran out
abbrev pub IsTold : (ExitStatus → List ℕ → Type 0) → Result ReadyText CommandError → Type 0
IsTold P (Ok hardening) = P hardening.status hardening.text.items
IsTold P (Err (stop.Refused line)) = P Refused line.items
IsTold P (Err stop.ReadFault) = ⊥
IsTold P (Err stop.Memory) = Unit {0}
