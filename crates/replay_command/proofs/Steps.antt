-- What is refused behind the inputs, step by step.
use Rattle.std.proofs.Common.{◌≡◌, ◌∙◌, ℕ, Some, None, List, Ok, Err, sym, ap, subst}
use Rattle.std.specs.Prelude.{All}
use Rattle.std.proofs.lemmas.List.Elements.{recursion_from_All}
use Rattle.asked_service.specs.host_io.Agreeing.{ForFiles}
use Rattle.asked_service.specs.host_io.Files.{Files}
use Rattle.asked_service.specs.call_table.Table.{Table}
use Rattle.asked_service.specs.kernel_model.kernel_calls.Calls.{IsCall}
use Rattle.asked_service.specs.kernel_model.declared.kernel_calls.call.Call.{Call}
use Rattle.asked_service.specs.unit_inputs.command_answers.CommandErrors.{IsAnswer, Prepares, first_refusal}
use Rattle.asked_service.specs.unit_inputs.declared.command_answers.error.CommandError.{CommandError}
use Rattle.asked_service.proofs.OfUnitInputs.Refusing.{passes, stops, stops_as, stops_before}
use Rattle.asked_service.proofs.Started.{any_stop, is_settled, paths_next}
use Rattle.asked_service.specs.unit_inputs.Inputs.{input_refusals, inputs_of, inputs_view}
use Rattle.asked_service.specs.unit_inputs.declared.inputs.UnitInputs.{UnitInputs}
use Rattle.asked_service.specs.unit_inputs.Settled.{AreSettled, refusals_by, refusals_of}
use Rattle.asked_service.specs.unit_inputs.declared.settling.SettledUnit.{SettledUnit}
use Rattle.asked_service.proofs.OfUnitInputs.Steps as steps
use Rattle.asked_service.proofs.OfUnitInputs.Steps.{AreRead, refusals_with}
use Rattle.asked_service.specs.launching.Settled.{IsSettled, inputs_in}
use Rattle.asked_service.specs.launching.Starting.{start_refusals}
use Rattle.asked_service.specs.plan_command.Prints.{refused_paths}
use Rattle.replay_command.specs.Prepared.{CanBeStarted, IsPrepared, replay_refusals, settled_behind, settled_refusals}
use Rattle.replay_command.specs.declared.preparing.Prepared.{Prepared}
use Rattle.asked_service.specs.Scripts.{script_in}

-- an input is refused
pub stops_at_inputs : (P : UnitInputs → Type 0) (agrees : Files → Type 0) (unit path : List ℕ) (stop : CommandError)
    → ForFiles agrees (λ files. Prepares P (input_refusals files unit) (Err stop))
    → ForFiles agrees (λ files. Prepares (IsPrepared files unit path) (settled_refusals files unit path) (Err stop))
stops_at_inputs P agrees unit path stop said =
    steps.stops_at_inputs (λ files. P) (λ files. IsPrepared files unit path) agrees unit
    (λ files. refusals_by (settled_behind files unit path) (inputs_of files unit)) stop said

-- behind inputs that are read
module _ (files : Files) (unit path : List ℕ) (inputs : UnitInputs) (read : AreRead files unit inputs) where
  behind_inputs : first_refusal (settled_refusals files unit path) ≡ first_refusal (settled_behind files unit path (inputs_view inputs))
  behind_inputs = refusals_with files unit (input_refusals files unit) (settled_behind files unit path) (inputs_view inputs) read.0 read.1

  behind_script : (script : List Call) → script_in files path (inputs_view inputs).calls ≡ Ok script
      → first_refusal (settled_refusals files unit path) ≡ first_refusal
      (refusals_of unit (inputs_view inputs))
  behind_script script is =
      behind_inputs ∙ passes (script_in files path (inputs_view inputs).calls) script
      (refusals_of unit (inputs_view inputs)) is

-- the script is refused
pub stops_at_script : (between agrees : Files → Type 0) (unit path : List ℕ) (inputs : UnitInputs) (table : Table) (stop : CommandError)
    → ForFiles agrees between → table ≡ (inputs_view inputs).calls
    → ForFiles between (λ files. AreRead files unit inputs)
    → ForFiles agrees (λ files. IsAnswer {T = List Call} (λ script. script) (Err stop) (script_in files path table))
    → ForFiles agrees (λ files. Prepares (IsPrepared files unit path) (settled_refusals files unit path) (Err stop))
stops_at_script between agrees unit path inputs table stop stays by read said files agree =
    let refused : IsAnswer {T = List Call} (λ script. script) (Err stop) (script_in files path (inputs_view inputs).calls) =
    subst (λ own. IsAnswer {T = List Call} (λ script. script) (Err stop) (script_in files path own)) by (said files agree) in
    let rest = refusals_of unit (inputs_view inputs) in
    stops_as (IsPrepared files unit path) stop (settled_behind files unit path (inputs_view inputs)) (settled_refusals files unit path)
    (behind_inputs files unit path inputs (read files (stays files agree)))
    (stops (λ (script : List Call). script) (IsPrepared files unit path)
    (script_in files path (inputs_view inputs).calls) stop rest refused)

-- the script that was read
abbrev pub IsScript : (Files → Type 0) → List ℕ → UnitInputs → List Call → Type 0
IsScript agrees path inputs script = ForFiles agrees (λ files. script_in files path (inputs_view inputs).calls ≡ Ok script)

pub script_is : (agrees : Files → Type 0) (path : List ℕ) (inputs : UnitInputs) (table : Table) (script : List Call) → table ≡ (inputs_view inputs).calls
    → ForFiles agrees (λ files. IsAnswer (λ (script : List Call). script) (Ok script) (script_in files path table))
    → IsScript agrees path inputs script
script_is agrees path inputs table script by said files agree = subst (λ own. script_in files path own ≡ Ok script) by (said files agree)

-- a setting is refused
pub stops_at_settings : (P : SettledUnit → Type 0) (agrees : Files → Type 0) (unit path : List ℕ) (inputs : UnitInputs) (script : List Call)
    (stop : CommandError)
    → ForFiles agrees (λ files. AreRead files unit inputs) → IsScript agrees path inputs script
    → Prepares P (refusals_of unit (inputs_view inputs)) (Err stop)
    → ForFiles agrees (λ files. Prepares (IsPrepared files unit path) (settled_refusals files unit path) (Err stop))
stops_at_settings P agrees unit path inputs script stop read is said files agree =
    stops_as (IsPrepared files unit path) stop (refusals_of unit (inputs_view inputs)) (settled_refusals files unit path)
    (behind_script files unit path inputs (read files agree) script (is files agree))
    (any_stop P (IsPrepared files unit path) (refusals_of unit (inputs_view inputs)) stop said)

-- the unit is settled
module _ (unit path : List ℕ) (inputs : UnitInputs) (script : List Call) (one : SettledUnit)
    (settles : Prepares (λ (one : SettledUnit). (one.inputs ≡ inputs) × AreSettled (inputs_view inputs) one.settings.value) (refusals_of unit (inputs_view inputs)) (Ok one)) where
  pub is_prepared : (agrees : Files → Type 0) → ForFiles agrees (λ files. AreRead files unit inputs) → IsScript agrees path inputs script
      → ForFiles agrees (λ files. Prepares (IsPrepared files unit path) (settled_refusals files unit path)
      (Ok (record { unit = one; script = script })))
  is_prepared agrees read is files agree = (
    behind_script files unit path inputs (read files agree) script (is files agree) ∙ settles.0,
    record {
      inputs = (read files agree).1 ∙ ap (λ own. Some (inputs_view own)) (sym settles.1.0);
      script = subst (λ own. script_in files path (inputs_view own).calls ≡ Ok script) (sym settles.1.0) (is files agree);
    },
  )

  -- what is prepared can be started
  pub can_start : (lent : List Call) → lent ≡ script → All IsCall lent → CanBeStarted (record { unit = one; script = script })
  can_start lent lends fit = record {
    settled = is_settled unit inputs (Ok one) settles;
    calls = recursion_from_All IsCall script (subst (All IsCall) lends fit);
  }

-- the paths are refused last
pub stops_before_paths : (agrees : Files → Type 0) (unit path : List ℕ) (why : CommandError)
    → ForFiles agrees (λ files. Prepares (IsPrepared files unit path) (settled_refusals files unit path) (Err why))
    → ForFiles agrees (λ files. Prepares (IsPrepared files unit path) (replay_refusals files unit path) (Err why))
stops_before_paths agrees unit path why said files agree =
    stops_before (IsPrepared files unit path) (IsPrepared files unit path) why (settled_refusals files unit path)
    (refusals_by (refused_paths unit) (inputs_of files unit)) (said files agree)

-- behind the settings the unit is refused as it starts
pub behind_settings : (files : Files) (unit path : List ℕ) (one : SettledUnit) → IsSettled one
    → first_refusal (settled_refusals files unit path) ≡ None → inputs_of files unit ≡ Some (inputs_in one)
    → first_refusal (replay_refusals files unit path) ≡ first_refusal (start_refusals unit (inputs_in one))
behind_settings files unit path one is none inputs =
    refusals_with files unit (settled_refusals files unit path) (refused_paths unit) (inputs_in one) none inputs
    ∙ sym (paths_next unit one is)
