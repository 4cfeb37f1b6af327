-- The settings follow from the inputs.
use Rattle.std.proofs.Common.{◌≡◌, ℕ, Option, Some, None, List, ◌++◌, Result, Ok, Err, sym, ap, ◌∙◌}
use Rattle.exec_settings.specs.host_io.Agreeing.{ForFiles}
use Rattle.exec_settings.specs.host_io.Files.{Files}
use Rattle.unit_inputs.specs.command_answers.CommandErrors.{Prepares, first_refusal}
use Rattle.unit_inputs.specs.declared.command_answers.error.CommandError.{CommandError}
use Rattle.unit_inputs.specs.declared.command_answers.error.CommandError.TheVariants as stop
use Rattle.unit_inputs.proofs.Refusing.{behind_none, stops_before}
use Rattle.unit_inputs.specs.Inputs.{Inputs, input_refusals, inputs_of, inputs_view}
use Rattle.unit_inputs.specs.declared.inputs.UnitInputs.{UnitInputs}
use Rattle.unit_inputs.specs.Settled.{AreSettled, refusals_by, refusals_of, unit_refusals}
use Rattle.unit_inputs.specs.declared.settling.SettledUnit.{SettledUnit}

-- the inputs are read and none is refused
abbrev pub AreRead : Files → List ℕ → UnitInputs → Type 0
AreRead files unit inputs = (first_refusal (input_refusals files unit) ≡ None) × (inputs_of files unit ≡ Some (inputs_view inputs))

-- if the inputs are read, the refusals after other refusals are the refusals for these inputs
pub refusals_with : (files : Files) (unit : List ℕ) (some : List (Option (List ℕ))) (more : Inputs → List (Option (List ℕ)))
    (inputs : Inputs) → first_refusal some ≡ None → inputs_of files unit ≡ Some inputs
    → first_refusal (some ++ refusals_by more (inputs_of files unit)) ≡ first_refusal (more inputs)
refusals_with files unit some more inputs none is =
    behind_none some (refusals_by more (inputs_of files unit)) none
    ∙ ap (λ found. first_refusal (refusals_by more found)) is

-- the inputs are read, and then their settings
pub settled : (agrees : Files → Type 0) (unit : List ℕ) (inputs : UnitInputs) (result : Result SettledUnit CommandError)
    → ForFiles agrees (λ files. AreRead files unit inputs) → Prepares
    (λ one. (one.inputs ≡ inputs) × AreSettled (inputs_view inputs) one.settings.value) (refusals_of unit (inputs_view inputs)) result
    → ForFiles agrees (λ files. Prepares (λ one. inputs_of files unit ≡ Some (inputs_view one.inputs)) (unit_refusals files unit) result)
settled agrees unit inputs result all settles files agree = by_result result (all files agree) settles
  where
    by_result : (result : Result SettledUnit CommandError) → AreRead files unit inputs
        → Prepares (λ one. (one.inputs ≡ inputs) × AreSettled (inputs_view inputs) one.settings.value) (refusals_of unit (inputs_view inputs)) result
        → Prepares (λ one. inputs_of files unit ≡ Some (inputs_view one.inputs)) (unit_refusals files unit) result
    by_result (Ok one) read settles = (
      refusals_with files unit (input_refusals files unit) (refusals_of unit) (inputs_view inputs) read.0 read.1 ∙ settles.0,
      read.1 ∙ ap (λ these. Some (inputs_view these)) (sym settles.1.0),
    )
    by_result (Err (stop.Refused line)) read settles =
        refusals_with files unit (input_refusals files unit) (refusals_of unit) (inputs_view inputs) read.0 read.1 ∙ settles
    by_result (Err stop.ReadFault) read settles = tt
    by_result (Err stop.Memory) read settles = tt

-- an input is refused, whatever refusals may follow
pub stops_at_inputs : {U : Type 0} (P : Files → UnitInputs → Type 0) (Q : Files → U → Type 0) (agrees : Files → Type 0) (unit : List ℕ)
    (more : Files → List (Option (List ℕ))) (why : CommandError)
    → ForFiles agrees (λ files. Prepares (P files) (input_refusals files unit) (Err why))
    → ForFiles agrees (λ files. Prepares (Q files) (input_refusals files unit ++ more files) (Err why))
stops_at_inputs P Q agrees unit more why said files agree =
    stops_before (P files) (Q files) why (input_refusals files unit) (more files) (said files agree)
