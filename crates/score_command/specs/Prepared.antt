-- What a score is made from.
use Rattle.std.specs.Prelude.{◌≡◌, ℕ, ◌≤◌, List, length, Some, Ok}
use Rattle.unit_inputs.specs.host_io.Files.{Files}
use Rattle.report_text.specs.mount_settings.Written.{unit_written}
use Rattle.unit_inputs.specs.Inputs.{Inputs, inputs_of, inputs_view}
use Rattle.unit_inputs.specs.Settled.{AreSettled}
use Rattle.score_command.specs.Policies.{policy_in}
use Rattle.score_command.specs.declared.preparing.Prepared.{Prepared}

abbrev pub inputs_in : Prepared → Inputs
inputs_in prepared = inputs_view prepared.unit.inputs

-- the settings belong to the unit, which writes few enough paths for them
pub record CanBeWeighed (prepared : Prepared) : Type 0 where
  pub settled : AreSettled (inputs_in prepared) prepared.unit.settings.value
  pub few_paths : length (unit_written (inputs_in prepared).unit) ≤ 128

-- it is what the files give: the inputs of the unit, and the policy
pub record IsPrepared (files : Files) (unit path : List ℕ) (prepared : Prepared) : Type 0 where
  pub inputs : inputs_of files unit ≡ Some (inputs_in prepared)
  pub policy : policy_in files path ≡ Ok prepared.policy
