-- A report of all units.
use Rattle.std.specs.Prelude.{List, map, IsPermutation}
use Rattle.std.specs.List.{All}
use Rattle.unit_inputs.specs.host_io.Files.{Files}
use Rattle.report_text.specs.exposure_score.StoredTests.{StoredTests}
use Rattle.score_command.specs.fleet_command.fleet_report.Order.{AreInOrder}
use Rattle.score_command.specs.fleet_command.fleet_report.Outcomes.{IsRowOf}
use Rattle.score_command.specs.declared.fleet_command.fleet_report.rows.FleetRow.{FleetRow}
use Rattle.score_command.specs.fleet_command.Inputs.{Inputs}

-- a row for each name, what came of each unit by its own files, the least protected first
pub record AreFleet (files : Files) (inputs : Inputs) (stored : StoredTests) (rows : List FleetRow) : Type 0 where
  pub a_row_a_name : IsPermutation inputs.names (map (λ row. row.name) rows)
  pub by_their_files : All (IsRowOf files inputs.calls inputs.site inputs.policy stored) rows
  pub least_protected_first : AreInOrder rows
