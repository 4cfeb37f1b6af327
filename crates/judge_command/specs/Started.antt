-- A launched unit, and how a run continues after the preparation.
use Rattle.std.specs.Prelude.{ℕ, IsErrOf, List, Result, Ok, Err}
use Rattle.asked_service.specs.launcher.declared.error.LaunchError.{LaunchError}
use Rattle.asked_service.specs.launcher.declared.launched.Launched.{Launched as Service}
use Rattle.asked_service.specs.launching.Refusals.{launch_line}
use Rattle.asked_service.specs.launching.Settled.{StartsBy, inputs_in}
use Rattle.asked_service.specs.launching.Starting.{start_refusals}
use Rattle.asked_service.specs.unit_inputs.command_answers.CommandErrors.{Prepares}
use Rattle.asked_service.specs.unit_inputs.command_answers.Printing.{Finishes, Output}
use Rattle.asked_service.specs.unit_inputs.declared.command_answers.error.CommandError.{CommandError}
use Rattle.asked_service.specs.unit_inputs.declared.command_answers.error.CommandError.TheVariants as stop
use Rattle.asked_service.specs.unit_inputs.declared.command_answers.exit_status.ExitStatus.{ExitStatus}
use Rattle.asked_service.specs.unit_inputs.declared.command_answers.exit_status.ExitStatus.TheVariants.{Done, LaunchRefused}
use Rattle.asked_service.specs.unit_inputs.declared.settling.SettledUnit.{SettledUnit}
use Rattle.asked_service.specs.Asking.{IsAsked}
use Rattle.judge_command.specs.Asked.{asked_text}
use Rattle.judge_command.specs.Prepared.{settings_in, unit_in}
use Rattle.judge_command.specs.Report.{report_text}
use Rattle.judge_command.specs.declared.launching.Outcome.{Outcome}
use Rattle.judge_command.specs.declared.launching.Outcome.TheVariants.{Asked, Refused}

-- what a launch came to
abbrev pub launch_by : Outcome → Result Service LaunchError
launch_by (Asked asked) = Ok asked.bounded.service
launch_by (Refused error) = Err error

abbrev pub CanBeTold : Outcome → Type 0
CanBeTold (Asked asked) = IsAsked asked
CanBeTold (Refused error) = Unit {0}

-- the unit started so by its settings
abbrev pub IsStarted : SettledUnit → Outcome → Type 0
IsStarted one outcome = StartsBy one (launch_by outcome) × CanBeTold outcome

abbrev pub told_text : Outcome → List ℕ
told_text (Asked asked) = asked_text asked
told_text (Refused error) = launch_line error

abbrev pub status_of : Outcome → ExitStatus
status_of (Asked asked) = Done
status_of (Refused error) = LaunchRefused

-- the whole text of a unit by its name
abbrev pub text_of : List ℕ → SettledUnit → Outcome → List ℕ
text_of unit one outcome = report_text unit (unit_in one).files (settings_in one).notes.items (told_text outcome)

-- it is printed, or the line of the path that is refused; or memory ran out, and nothing was printed
pub record FinishesStarted (unit : List ℕ) (one : SettledUnit) (ended : ExitStatus) (output : Output) : Type 0 where
  pub result : Result Outcome CommandError
  pub starts : Prepares (IsStarted one) (start_refusals unit (inputs_in one)) result
  pub reads_nothing : IsErrOf result stop.ReadFault → ⊥
  pub finishes : Finishes status_of (text_of unit one) result ended output
