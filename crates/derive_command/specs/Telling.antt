-- The answer for a script over any table of calls.
use Rattle.std.specs.Prelude.{ℕ, List}
use Rattle.asked_service.specs.kernel_model.declared.kernel_calls.call.Call.{Call}
use Rattle.asked_service.specs.unit_inputs.declared.command_answers.exit_status.ExitStatus.{ExitStatus}
use Rattle.asked_service.specs.unit_inputs.declared.command_answers.exit_status.ExitStatus.TheVariants.{Done, LaunchRefused}
use Rattle.asked_service.specs.launcher.declared.error.LaunchError.{LaunchError}
use Rattle.asked_service.specs.launching.Launched.{IsRefusedUnit}
use Rattle.asked_service.specs.launching.Refusals.{launch_line}
use Rattle.asked_service.specs.unit_inputs.Inputs.{Inputs}
use Rattle.derive_command.specs.trace_profile.Derived.{IsDerived, IsOnlyOne}
use Rattle.derive_command.specs.trace_profile.Extended.{drop_in_text, open_unit}
use Rattle.derive_command.specs.trace_profile.PlainNames.{HasPlainNames}

-- if a list exists, it is the drop-in that allows the least list; that list is the only
-- one if the names of the table are plain. Otherwise it is the line of a launch that is refused although every call is allowed
pub data AnswersCalls (inputs : Inputs) (script : List Call) : ExitStatus → List ℕ → Type 0 where
  allowed : (names : List ℕ) → IsDerived inputs.unit inputs.calls inputs.site script names
      → (HasPlainNames inputs.calls → IsOnlyOne inputs.unit inputs.calls inputs.site script names)
      → AnswersCalls inputs script Done (drop_in_text inputs.calls names)
  not_launched : (error : LaunchError) → IsRefusedUnit (open_unit inputs.unit inputs.calls) inputs.calls inputs.site error
      → AnswersCalls inputs script LaunchRefused (launch_line error)
