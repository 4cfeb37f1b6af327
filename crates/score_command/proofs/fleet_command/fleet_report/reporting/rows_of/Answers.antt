use Rattle.std.proofs.Common.{◌∙◌}
use Rattle.std.proofs.lemmas.List.Elements.{All-push}
use Rattle.report_text.specs.exposure_score.StoredTests.{stored_by}
use Rattle.score_command.specs.fleet_command.fleet_report.Outcomes.{IsRowOf, TellsNoFault}
use Rattle.score_command.proofs.FleetReportAsked.{row_cut, row_more, row_stops}
use Rattle.score_command.proofs.Gathered.{names_more, rows_more}
use Rattle.std.proofs.Common.{Global, Vec}
use Rattle.std.proofs.lemmas.Result.{err_from_is_err_and}
use Rattle.score_command.specs.declared.fleet_command.fleet_report.rows.FleetRow.{FleetRow}
use Rattle.score_command.proofs.fleet_command.fleet_report.reporting.rows_of.Goals as goal

pub loop-name-preserved : goal.loop-name-preserved
loop-name-preserved g c =
    let stored = stored_by (λ test. test.id) (λ test. test.range) (λ test shown answer. (goal.Fn-dyn g).post (test.check.vtable, test.check.value) (shown, tt) answer) c.args.tests.now in
    record {
      answers = λ files agree. c.loop-name.invariant.answers files (c.in_ok-row_of.ensures.answers_stay files agree);
      stays = c.in_ok-row_of.ensures.fault_rose.no_other_fault ∙ c.loop-name.invariant.stays;
      names =
          rw c.in_ok-push.ensures.items
          (names_more c.loop-name.rows.items c.in_ok-row_of.field-0 c.args.names.now c.loop-name.name-index c.name-item.result
          c.name-item.result c.loop-name-test.true c.name-item.is c.in_ok-row_of.ensures.same_name c.loop-name.invariant.names);
      rows = λ files known.
          rw c.in_ok-push.ensures.items
          (rows_more (λ files. IsRowOf files c.args.calls.now c.args.site.now c.args.policy.now stored) (g.S.Shelf.agrees c.row_of.new.shelf)
          (g.S.Shelf.agrees c.loop-name.shelf) c.loop-name.rows.items c.in_ok-row_of.field-0
          c.in_ok-row_of.ensures.answers_stay c.in_ok-row_of.ensures.is_the_row c.loop-name.invariant.rows files known);
      asks =
          row_more g.S.Shelf.asks (g.S.Shelf.agrees c.loop-name.shelf)
          (g.S.Shelf.agrees c.row_of.new.shelf) c.in_ok-row_of.ensures.answers_stay c.args.shelf.now c.loop-name.shelf _ c.args.names.now
          c.loop-name.name-index c.name-item.result c.name-item.result
          c.loop-name-test.true c.name-item.is c.loop-name.invariant.asks c.in_ok-row_of.ensures.asks_in_order;
      faultless = rw c.in_ok-push.ensures.items
          (All-push (λ row. TellsNoFault row.outcome) c.loop-name.rows.items c.in_ok-row_of.field-0 c.loop-name.invariant.faultless
          c.in_ok-row_of.ensures.tells_no_fault);
    }

pub returns-in_err-row_of-clause-asks_in_order : goal.returns-in_err-row_of-clause-asks_in_order
returns-in_err-row_of-clause-asks_in_order g c =
    let p = err_from_is_err_and c.from_residual.result c.from_residual.ensures.1 in
    rw (p.1, p.2)
    (row_stops g.S.Shelf.asks (g.S.Shelf.agrees c.loop-name.shelf)
    (g.S.Shelf.agrees c.row_of.new.shelf) c.in_err-row_of.ensures.answers_stay c.args.shelf.now c.loop-name.shelf _ c.args.names.now
    c.loop-name.name-index c.name-item.result c.name-item.result
    c.loop-name-test.true c.name-item.is c.loop-name.invariant.asks
    (Vec FleetRow Global) c.in_err-row_of.field-0.0 c.in_err-row_of.ensures.never_weightless c.in_err-row_of.ensures.asks_in_order)

pub returns-in_err-push-clause-asks_in_order : goal.returns-in_err-push-clause-asks_in_order
returns-in_err-push-clause-asks_in_order g c =
    let p = err_from_is_err_and c.from_residual-in_err-push.result c.from_residual-in_err-push.ensures.1 in
    rw (p.1, p.2)
    (row_cut g.S.Shelf.asks (g.S.Shelf.agrees c.loop-name.shelf)
    (g.S.Shelf.agrees c.row_of.new.shelf) c.in_ok-row_of.ensures.answers_stay c.args.shelf.now c.loop-name.shelf _ c.args.names.now
    c.loop-name.name-index c.name-item.result c.name-item.result
    c.loop-name-test.true c.name-item.is c.loop-name.invariant.asks c.in_ok-row_of.ensures.asks_in_order)
