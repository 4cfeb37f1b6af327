-- What a replay starts with, and the order of refusals.
use Rattle.std.specs.Prelude.{◌≡◌, ℕ, List, ◌∷◌, ◌++◌, Option, Some, Ok}
use Rattle.asked_service.specs.host_io.Files.{Files}
use Rattle.asked_service.specs.kernel_model.kernel_calls.Calls.{AreCalls}
use Rattle.asked_service.specs.unit_inputs.command_answers.CommandErrors.{refusal_in}
use Rattle.asked_service.specs.unit_inputs.Inputs.{Inputs, input_refusals, inputs_of}
use Rattle.asked_service.specs.unit_inputs.Settled.{refusals_by, refusals_of}
use Rattle.asked_service.specs.launching.Settled.{IsSettled, inputs_in}
use Rattle.asked_service.specs.plan_command.Prints.{refused_paths}
use Rattle.asked_service.specs.Scripts.{script_in}
use Rattle.replay_command.specs.declared.preparing.Prepared.{Prepared}

-- the refusals after the inputs: the script, and then the settings
abbrev pub settled_behind : Files → List ℕ → List ℕ → Inputs → List (Option (List ℕ))
settled_behind files unit path inputs = refusal_in (script_in files path inputs.calls) ∷ refusals_of unit inputs

abbrev pub settled_refusals : Files → List ℕ → List ℕ → List (Option (List ℕ))
settled_refusals files unit path = input_refusals files unit ++ refusals_by (settled_behind files unit path) (inputs_of files unit)

-- the order of refusals: the inputs, the script, the settings, and then the paths
abbrev pub replay_refusals : Files → List ℕ → List ℕ → List (Option (List ℕ))
replay_refusals files unit path = settled_refusals files unit path ++ refusals_by (refused_paths unit) (inputs_of files unit)

-- the unit has its settings, and the script has calls that processes can make
pub record CanBeStarted (prepared : Prepared) : Type 0 where
  pub settled : IsSettled prepared.unit
  pub calls : AreCalls prepared.script

-- it is what the files give: the inputs of the unit, and the script
pub record IsPrepared (files : Files) (unit path : List ℕ) (prepared : Prepared) : Type 0 where
  pub inputs : inputs_of files unit ≡ Some (inputs_in prepared.unit)
  pub script : script_in files path (inputs_in prepared.unit).calls ≡ Ok prepared.script
