-- What `fleet` prints, by the files.
use Rattle.std.specs.Prelude.{◌≡◌, ℕ, List}
use Rattle.unit_inputs.specs.host_io.Files.{Files}
use Rattle.report_text.specs.exposure_score.StoredTests.{StoredTests}
use Rattle.unit_inputs.specs.command_answers.Laws.{FileLaws}
use Rattle.unit_inputs.specs.declared.command_answers.exit_status.ExitStatus.{ExitStatus}
use Rattle.unit_inputs.specs.declared.command_answers.exit_status.ExitStatus.TheVariants.{Done}
use Rattle.score_command.specs.declared.fleet_command.fleet_report.rows.FleetRow.{FleetRow}
use Rattle.score_command.specs.fleet_command.Inputs.{AreInputs, Inputs}
use Rattle.score_command.specs.fleet_command.Refusals.{fleet_refusals}
use Rattle.score_command.specs.fleet_command.Reports.{AreFleet}
use Rattle.score_command.specs.fleet_command.Texts.{fleet_text}
use Rattle.score_command.specs.declared.fleet_command.ready.Fleet.{Fleet}

-- the report of all units by the policy
pub record PrintsFleet (files : Files) (path : List ℕ) (stored : StoredTests) (text : List ℕ) : Type 0 where
  pub inputs : Inputs
  pub are_inputs : AreInputs files path inputs
  pub rows : List FleetRow
  pub are_rows : AreFleet files inputs stored rows
  pub is_their_text : text ≡ fleet_text rows

-- the refusals in their order; files are read whatever the policy is called
abbrev pub fleet_laws : List ℕ → StoredTests → FileLaws
fleet_laws path stored = record {
  refusals = λ files. fleet_refusals files path stored;
  prints = λ files status text. PrintsFleet files path stored text;
  may_end = λ status. status ≡ Done;
  reads = Unit {0};
}

-- what is ready
abbrev pub text_of : Fleet → List ℕ
text_of fleet = fleet_text fleet.rows.items

abbrev pub status_of : Fleet → ExitStatus
status_of fleet = Done
