use Rattle.std.proofs.Common.{◌≡◌, map, take}
use Rattle.std.specs.List.{All}
use Rattle.report_text.specs.exposure_score.StoredTests.{stored_by}
use Rattle.unit_inputs.specs.host_io.Agreeing.{ForFiles}
use Rattle.unit_inputs.specs.host_io.Files.{Files}
use Rattle.score_command.specs.fleet_command.fleet_report.Outcomes.{IsRowOf, TellsNoFault}
use Rattle.score_command.proofs.FleetReportAsked.{GoesThrough}
use Rattle.score_command.proofs.fleet_command.fleet_report.reporting.rows_of.Given as goal

abbrev pub invariant-loop-name : goal.invariant-loop-name
invariant-loop-name g l = record {
  answers : ForFiles (g.S.Shelf.agrees l.shelf) (g.S.Shelf.agrees l.fn.shelf);
  stays : g.S.Shelf.faults l.shelf ≡ g.S.Shelf.faults l.fn.shelf;
  names : map (λ row. row.name) l.rows.items ≡ take l.name-index l.names;
  rows : (files : Files) → g.S.Shelf.agrees l.shelf files
      → All (IsRowOf files l.calls l.site l.policy
      (stored_by (λ test. test.id) (λ test. test.range)
      (λ test shown answer. (goal.Fn-dyn g).post (test.check.vtable, test.check.value) (shown, tt) answer) l.tests)) l.rows.items;
  asks : (files : Files) → g.S.Shelf.agrees l.shelf files
      → GoesThrough g.S.Shelf.asks l.fn.shelf l.shelf l.names l.name-index files;
  faultless : All (λ row. TellsNoFault row.outcome) l.rows.items;
}
