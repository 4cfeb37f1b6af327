-- What a report of all units is made from.
use Rattle.std.specs.Prelude.{◌≡◌, ℕ, List, Ok}
use Rattle.unit_inputs.specs.host_io.Files.{Files}
use Rattle.report_text.specs.call_table.Table.{Table}
use Rattle.report_text.specs.exposure_score.declared.policy_file.policy.PolicyTest.{PolicyTest}
use Rattle.report_text.specs.site_table.Table.{Site}
use Rattle.unit_inputs.specs.unit_names.Names.{Name}
use Rattle.unit_inputs.specs.CallsRefusals.{calls_in}
use Rattle.unit_inputs.specs.SiteRefusals.{site_in}
use Rattle.score_command.specs.Policies.{policy_in}
use Rattle.score_command.specs.fleet_command.Refusals.{names_in}
use Rattle.score_command.specs.declared.fleet_command.preparing.FleetInputs.{FleetInputs}

-- the names of the units, and the tables and policy for all of them
pub record Inputs : Type 0 where
  pub names : List Name
  pub calls : Table
  pub site : Site
  pub policy : List PolicyTest

abbrev pub inputs_view : FleetInputs → Inputs
inputs_view inputs = record { names = inputs.names.items; calls = inputs.calls.value; site = inputs.site.value; policy = inputs.policy }

-- they are what the files give
pub record AreInputs (files : Files) (path : List ℕ) (inputs : Inputs) : Type 0 where
  pub names : names_in files ≡ Ok inputs.names
  pub calls : calls_in files ≡ Ok inputs.calls
  pub site : site_in files ≡ Ok inputs.site
  pub policy : policy_in files path ≡ Ok inputs.policy
