-- The order of refusals: too many units, calls.txt, site.toml, the policy, and then that the policy weighs nothing.
use Rattle.std.specs.Prelude.{ℕ, List, [], ◌∷◌, ◌++◌, codes, cond, Option, Result, Ok, Err}
use Rattle.unit_inputs.specs.host_io.Files.{Files}
use Rattle.report_text.specs.call_table.Table.{Table}
use Rattle.report_text.specs.exposure_score.StoredTests.{StoredTests}
use Rattle.report_text.specs.exposure_score.declared.policy_file.policy.PolicyTest.{PolicyTest}
use Rattle.report_text.specs.exposure_score.policy_weights.Weights.{weight_of}
use Rattle.unit_inputs.specs.unit_names.Names.{Name}
use Rattle.unit_inputs.specs.command_answers.Refusals.{refused_line}
use Rattle.unit_inputs.specs.command_answers.CommandErrors.{refusal_in}
use Rattle.unit_inputs.specs.CallsRefusals.{calls_in}
use Rattle.unit_inputs.specs.SiteRefusals.{site_in}
use Rattle.score_command.specs.Policies.{policy_in}
use Rattle.score_command.specs.Weights.{weight_refusal}
use Rattle.score_command.specs.fleet_command.fleet_names.Units.{are_too_many, units_of}

abbrev pub too_many_line : List ℕ
too_many_line = refused_line (codes "fleet") (codes "too-many")

-- the names of the units over some files, or the line that there are too many
abbrev pub names_in : Files → Result (List Name) (List ℕ)
names_in files = cond (are_too_many files) (Err too_many_line) (Ok (units_of files))

-- what is read before the first unit
abbrev pub read_refusals : Files → List ℕ → List (Option (List ℕ))
read_refusals files path = refusal_in (names_in files) ∷ refusal_in (calls_in files) ∷ refusal_in (site_in files) ∷ refusal_in
    (policy_in files path) ∷ []

-- of a table and a policy that are read
abbrev pub weights_in : List ℕ → StoredTests → Result Table (List ℕ) → Result (List PolicyTest) (List ℕ) → List (Option (List ℕ))
weights_in path stored (Ok table) (Ok policy) = weight_refusal path (weight_of table stored policy) ∷ []
weights_in path stored (Ok table) (Err line) = []
weights_in path stored (Err line) policy = []

-- the refusal of a single unit is not among these
abbrev pub fleet_refusals : Files → List ℕ → StoredTests → List (Option (List ℕ))
fleet_refusals files path stored = read_refusals files path ++ weights_in path stored (calls_in files) (policy_in files path)
