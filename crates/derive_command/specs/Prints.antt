-- What `derive` prints, by the files.
use Rattle.std.specs.Prelude.{◌≡◌, ◌⊎◌, ℕ, IsSome, List, Some, Ok}
use Rattle.asked_service.specs.host_io.Files.{Files}
use Rattle.asked_service.specs.kernel_model.declared.kernel_calls.call.Call.{Call}
use Rattle.asked_service.specs.unit_inputs.command_answers.Laws.{FileLaws}
use Rattle.asked_service.specs.unit_inputs.declared.command_answers.exit_status.ExitStatus.{ExitStatus}
use Rattle.asked_service.specs.unit_inputs.declared.command_answers.exit_status.ExitStatus.TheVariants.{Done, LaunchRefused}
use Rattle.asked_service.specs.launching.Launched.{IsRefusedUnit}
use Rattle.asked_service.specs.Scripts.{script_in}
use Rattle.derive_command.specs.trace_profile.Derived.{IsDerived, IsOnlyOne}
use Rattle.derive_command.specs.trace_profile.Extended.{drop_in_text, open_unit}
use Rattle.asked_service.specs.unit_inputs.Inputs.{Inputs, inputs_of}
use Rattle.asked_service.specs.launching.Refusals.{launch_line}
use Rattle.asked_service.specs.launcher.declared.error.LaunchError.{LaunchError}
use Rattle.asked_service.specs.unit_names.Cutting.{name_of}
use Rattle.derive_command.specs.Refusals.{derive_refusals}

-- the drop-in that allows the least list, which is the only one; or the line of the launch that is refused though every call is allowed
pub data PrintsAnswer (inputs : Inputs) (script : List Call) : ExitStatus → List ℕ → Type 0 where
  derived : (names : List ℕ) → IsDerived inputs.unit inputs.calls inputs.site script names
      → IsOnlyOne inputs.unit inputs.calls inputs.site script names
      → PrintsAnswer inputs script Done (drop_in_text inputs.calls names)
  refused : (error : LaunchError) → IsRefusedUnit (open_unit inputs.unit inputs.calls) inputs.calls inputs.site error
      → PrintsAnswer inputs script LaunchRefused (launch_line error)

-- the inputs of the unit and the script, as the table of calls reads it, and what is derived from them
pub record PrintsDerived (files : Files) (unit path : List ℕ) (status : ExitStatus) (text : List ℕ) : Type 0 where
  pub inputs : Inputs
  pub inputs_are : inputs_of files unit ≡ Some inputs
  pub script : List Call
  pub script_is : script_in files path inputs.calls ≡ Ok script
  pub is_the_answer : PrintsAnswer inputs script status text

-- the refusals in their order; if the launch is refused, the status is 7
abbrev pub derive_laws : List ℕ → List ℕ → FileLaws
derive_laws unit path = record {
  refusals = λ files. derive_refusals files unit path;
  prints = λ files status text. PrintsDerived files unit path status text;
  may_end = λ status. (status ≡ Done) ⊎ (status ≡ LaunchRefused);
  reads = IsSome (name_of unit);
}
