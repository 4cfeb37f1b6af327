-- What `why` and a unit alone print, by the files.
use Rattle.std.specs.Prelude.{◌≡◌, ◌⊎◌, ◌++◌, ℕ, IsSome, List, Option, Some, Result, Ok, Err}
use Rattle.asked_service.specs.host_io.Files.{Files}
use Rattle.asked_service.specs.unit_inputs.command_answers.Laws.{FileLaws}
use Rattle.asked_service.specs.unit_inputs.declared.command_answers.exit_status.ExitStatus.{ExitStatus}
use Rattle.asked_service.specs.unit_inputs.declared.command_answers.exit_status.ExitStatus.TheVariants.{Done, LaunchRefused}
use Rattle.asked_service.specs.launcher.declared.launched.Launched.{Launched as Service}
use Rattle.why_command.specs.opening_lines.Opening.{AreAlone}
use Rattle.why_command.specs.declared.opening_lines.each.LineAlone.{LineAlone}
use Rattle.asked_service.specs.launching.Starting.{StartsAs, start_refusals}
use Rattle.asked_service.specs.unit_inputs.Inputs.{Inputs, input_refusals, inputs_of}
use Rattle.asked_service.specs.launching.Refusals.{launch_line}
use Rattle.asked_service.specs.launcher.declared.error.LaunchError.{LaunchError}
use Rattle.asked_service.specs.unit_names.Cutting.{name_of}
use Rattle.asked_service.specs.unit_inputs.Settled.{refusals_by}
use Rattle.why_command.specs.lines_command.Lines.{lines_text}

-- of a launched service: each assignment in force of the unit with exactly what it denies by itself
pub record TellsService (name : List ℕ) (inputs : Inputs) (service : Service) (text : List ℕ) : Type 0 where
  pub told : List LineAlone
  pub are_alone : AreAlone name inputs service.world told
  pub is_its_text : text ≡ lines_text inputs.calls inputs.site inputs.unit.files told

-- or the launch is refused
abbrev pub TellsLaunch : List ℕ → Inputs → Result Service LaunchError → ExitStatus → List ℕ → Type 0
TellsLaunch name inputs (Err error) status text = (status ≡ LaunchRefused) × (text ≡ launch_line error)
TellsLaunch name inputs (Ok service) status text = (status ≡ Done) × TellsService name inputs service text

-- the result of the unit's launch, and the text for it
pub record TellsLines (name : List ℕ) (inputs : Inputs) (status : ExitStatus) (text : List ℕ) : Type 0 where
  pub launch : Result Service LaunchError
  pub starts : StartsAs inputs launch
  pub tells : TellsLaunch name inputs launch status text

-- the order of refusals: the inputs, and then the settings and paths of the unit
abbrev pub lines_refusals : Files → List ℕ → List (Option (List ℕ))
lines_refusals files unit = input_refusals files unit ++ refusals_by (start_refusals unit) (inputs_of files unit)

-- by the inputs of the unit
pub record PrintsLines (files : Files) (unit : List ℕ) (status : ExitStatus) (text : List ℕ) : Type 0 where
  pub inputs : Inputs
  pub inputs_are : inputs_of files unit ≡ Some inputs
  pub tells : TellsLines unit inputs status text

-- the refusals in their order; if the launch is refused, the status is 7
abbrev pub lines_laws : List ℕ → FileLaws
lines_laws unit = record {
  refusals = λ files. lines_refusals files unit;
  prints = λ files status text. PrintsLines files unit status text;
  may_end = λ status. (status ≡ Done) ⊎ (status ≡ LaunchRefused);
  reads = IsSome (name_of unit);
}
