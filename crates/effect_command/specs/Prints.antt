-- What `effect` prints, by the files.
use Rattle.std.specs.Prelude.{◌≡◌, ◌⊎◌, ℕ, IsSome, List, Some, Result, Ok, Err}
use Rattle.asked_service.specs.host_io.Files.{Files}
use Rattle.asked_service.specs.call_table.Table as calls
use Rattle.asked_service.specs.site_table.Table.{Site}
use Rattle.asked_service.specs.unit_inputs.command_answers.Laws.{FileLaws}
use Rattle.asked_service.specs.unit_inputs.declared.command_answers.exit_status.ExitStatus.{ExitStatus}
use Rattle.asked_service.specs.unit_inputs.declared.command_answers.exit_status.ExitStatus.TheVariants.{Done, LaunchRefused}
use Rattle.asked_service.specs.launching.Starting.{StartsAs}
use Rattle.asked_service.specs.unit_grammar.declared.unit.UnitText.{UnitText}
use Rattle.asked_service.specs.unit_inputs.Inputs.{Inputs, inputs_of}
use Rattle.asked_service.specs.launching.Refusals.{launch_line}
use Rattle.asked_service.specs.launcher.declared.error.LaunchError.{LaunchError}
use Rattle.asked_service.specs.launcher.declared.launched.Launched.{Launched as Service}
use Rattle.asked_service.specs.unit_names.Cutting.{name_of}
use Rattle.asked_service.specs.verdict_changes.Changes.{AreChanges, Change}
use Rattle.effect_command.specs.Lines.{effect_text, with_line}
use Rattle.effect_command.specs.Longer.{dropin_in, with_dropin}
use Rattle.effect_command.specs.Refusals.{effect_refusals}

-- the launch of the unit is refused; or the launch with the drop-in is refused, and its line follows the word `with`; or both
-- succeed. Then the text has exactly the changes from the first service to the second, with their counts
abbrev pub TellsBoth : calls.Table → Site → Result Service LaunchError → Result Service LaunchError → ExitStatus → List ℕ → Type 0
TellsBoth table site (Err error) second status text = (status ≡ LaunchRefused) × (text ≡ launch_line error)
TellsBoth table site (Ok before) (Err error) status text = (status ≡ LaunchRefused) × (text ≡ with_line (launch_line error))
TellsBoth table site (Ok before) (Ok after) status text =
    (status ≡ Done) × ((changes : List Change) ×
    (AreChanges table site before.world after.world changes × (text ≡ effect_text table site changes)))

-- the launches of the unit and of the unit with the drop-in, and the text for them
pub record TellsWith (inputs : Inputs) (more : UnitText) (status : ExitStatus) (text : List ℕ) : Type 0 where
  pub first : Result Service LaunchError
  pub starts : StartsAs inputs first
  pub second : Result Service LaunchError
  pub starts_with : StartsAs (with_dropin inputs more) second
  pub tells : TellsBoth inputs.calls inputs.site first second status text

-- by the inputs of the unit and the drop-in
pub record PrintsEffect (files : Files) (unit path : List ℕ) (status : ExitStatus) (text : List ℕ) : Type 0 where
  pub inputs : Inputs
  pub inputs_are : inputs_of files unit ≡ Some inputs
  pub more : UnitText
  pub dropin_is : dropin_in files path ≡ Ok more
  pub tells : TellsWith inputs more status text

-- the refusals in their order; if a launch is refused, the status is 7
abbrev pub effect_laws : List ℕ → List ℕ → FileLaws
effect_laws unit path = record {
  refusals = λ files. effect_refusals files unit path;
  prints = λ files status text. PrintsEffect files unit path status text;
  may_end = λ status. (status ≡ Done) ⊎ (status ≡ LaunchRefused);
  reads = IsSome (name_of unit);
}
