-- The order of refusals: the inputs of the unit, the policy, the settings, and then that the policy weighs nothing.
use Rattle.std.specs.Prelude.{ℕ, List, [], ◌∷◌, ◌++◌, Option, Result, Ok, Err}
use Rattle.unit_inputs.specs.host_io.Files.{Files}
use Rattle.report_text.specs.call_table.Table.{Table}
use Rattle.report_text.specs.exposure_score.declared.policy_file.policy.PolicyTest.{PolicyTest}
use Rattle.report_text.specs.exposure_score.StoredTests.{StoredTests}
use Rattle.report_text.specs.exposure_score.policy_weights.Weights.{weight_of}
use Rattle.unit_inputs.specs.command_answers.CommandErrors.{refusal_in}
use Rattle.unit_inputs.specs.Inputs.{Inputs, input_refusals, inputs_of}
use Rattle.unit_inputs.specs.Settled.{refusals_by, refusals_of}
use Rattle.score_command.specs.Policies.{policy_in}
use Rattle.score_command.specs.Weights.{weight_refusal}

-- the refusals after the inputs, before anything is weighed
abbrev pub refusals_behind : Files → List ℕ → List ℕ → Inputs → List (Option (List ℕ))
refusals_behind files unit path inputs = refusal_in (policy_in files path) ∷ refusals_of unit inputs

abbrev pub read_refusals : Files → List ℕ → List ℕ → List (Option (List ℕ))
read_refusals files unit path = input_refusals files unit ++ refusals_by (refusals_behind files unit path) (inputs_of files unit)

-- of a policy that is read
abbrev pub weights_in : List ℕ → Table → StoredTests → Result (List PolicyTest) (List ℕ) → List (Option (List ℕ))
weights_in path table stored (Ok policy) = weight_refusal path (weight_of table stored policy) ∷ []
weights_in path table stored (Err line) = []

abbrev pub weight_refusals : Files → List ℕ → StoredTests → Inputs → List (Option (List ℕ))
weight_refusals files path stored inputs = weights_in path inputs.calls stored (policy_in files path)

abbrev pub score_refusals : Files → List ℕ → List ℕ → StoredTests → List (Option (List ℕ))
score_refusals files unit path stored = read_refusals files unit path ++ refusals_by (weight_refusals files path stored)
    (inputs_of files unit)
