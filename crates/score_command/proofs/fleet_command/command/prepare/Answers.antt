use Rattle.report_text.specs.exposure_score.StoredTests.{stored_by}
use Rattle.unit_inputs.specs.command_answers.Laws.{IsAdmitted, laws_over}
use Rattle.unit_inputs.proofs.FileCommands.{at_stop}
use Rattle.score_command.specs.fleet_command.Prints.{status_of, fleet_laws, text_of}
use Rattle.score_command.proofs.FleetCommandPrepared.{ready, stops_at_weights, stops_before_units}
use Rattle.std.proofs.Common.{Err, Global, Vec}
use Rattle.unit_inputs.specs.command_answers.Asking.{course}
use Rattle.unit_inputs.specs.host_io.Calls.{Whole}
use Rattle.unit_inputs.proofs.Ordering.{order_stopped}
use Rattle.score_command.specs.declared.fleet_command.fleet_report.rows.FleetRow.{FleetRow}
use Rattle.score_command.specs.fleet_command.Asking.{fleet_asks}
use Rattle.score_command.specs.declared.fleet_command.preparing.FleetInputs.{FleetInputs}
use Rattle.score_command.proofs.Asked.{reads_units, stops_before}
use Rattle.score_command.proofs.fleet_command.command.prepare.Goals as goal

pub returns-in_err-inputs-clause-prepares : goal.returns-in_err-inputs-clause-prepares
returns-in_err-inputs-clause-prepares g c =
    let stored = stored_by (λ test. test.id) (λ test. test.range) (λ test shown answer. (goal.Fn-dyn g).post (test.check.vtable, test.check.value) (shown, tt) answer) c.args.tests.now in
    at_stop (IsAdmitted (laws_over (g.S.Shelf.agrees c.read_all.new.shelf) (fleet_laws c.args.path.now stored)) status_of text_of)
    c.from_residual.result c.in_err-inputs.field-0.0 c.from_residual.ensures.1
    (stops_before_units (g.S.Shelf.agrees c.read_all.new.shelf) c.args.path.now stored c.in_err-inputs.field-0.0 c.in_err-inputs.ensures.prepares)

pub returns-in_err-rows-clause-prepares : goal.returns-in_err-rows-clause-prepares
returns-in_err-rows-clause-prepares g c =
    let stored = stored_by (λ test. test.id) (λ test. test.range) (λ test shown answer. (goal.Fn-dyn g).post (test.check.vtable, test.check.value) (shown, tt) answer) c.args.tests.now in
    at_stop (IsAdmitted (laws_over (g.S.Shelf.agrees c.report.new.shelf) (fleet_laws c.args.path.now stored)) status_of text_of)
    c.from_residual-in_err-rows.result c.in_err-rows.field-0.0 c.from_residual-in_err-rows.ensures.1
    (stops_at_weights (g.S.Shelf.agrees c.report.new.shelf) c.args.path.now stored c.in_ok-inputs.inputs (λ files agree. c.in_ok-inputs.ensures.prepares files (c.in_err-rows.ensures.answers_stay files agree))
    c.in_err-rows.field-0.0
    c.in_err-rows.ensures.reports)

pub returns-clause-prepares : goal.returns-clause-prepares
returns-clause-prepares g c =
    let stored = stored_by (λ test. test.id) (λ test. test.range) (λ test shown answer. (goal.Fn-dyn g).post (test.check.vtable, test.check.value) (shown, tt) answer) c.args.tests.now in
    ready (g.S.Shelf.agrees c.report.new.shelf) c.args.path.now stored c.in_ok-inputs.inputs (λ files agree. c.in_ok-inputs.ensures.prepares files (c.in_ok-rows.ensures.answers_stay files agree)) c.in_ok-rows.rows
    c.in_ok-rows.ensures.reports

pub returns-in_err-inputs-clause-asks_in_order : goal.returns-in_err-inputs-clause-asks_in_order
returns-in_err-inputs-clause-asks_in_order g c =
    let stored = stored_by (λ test. test.id) (λ test. test.range) (λ test shown answer. (goal.Fn-dyn g).post (test.check.vtable, test.check.value) (shown, tt) answer) c.args.tests.now in
    order_stopped g.S.Shelf.asks (g.S.Shelf.agrees c.read_all.new.shelf)
    (λ files. fleet_asks files c.args.path.now stored) c.args.shelf.now c.read_all.new.shelf FleetInputs c.from_residual.result
    c.in_err-inputs.field-0.0 c.from_residual.ensures.1
    (stops_before g.S.Shelf.asks (g.S.Shelf.agrees c.read_all.new.shelf) c.args.path.now stored c.args.shelf.now c.read_all.new.shelf
    c.in_err-inputs.field-0.0 c.in_err-inputs.ensures.prepares c.in_err-inputs.ensures.asks_in_order)

pub returns-in_err-rows-clause-asks_in_order : goal.returns-in_err-rows-clause-asks_in_order
returns-in_err-rows-clause-asks_in_order g c =
    let stored = stored_by (λ test. test.id) (λ test. test.range) (λ test shown answer. (goal.Fn-dyn g).post (test.check.vtable, test.check.value) (shown, tt) answer) c.args.tests.now in
    order_stopped g.S.Shelf.asks (g.S.Shelf.agrees c.report.new.shelf)
    (λ files. fleet_asks files c.args.path.now stored) c.args.shelf.now c.report.new.shelf
    (Vec FleetRow Global) c.from_residual-in_err-rows.result c.in_err-rows.field-0.0 c.from_residual-in_err-rows.ensures.1
    (reads_units g.S.Shelf.asks (g.S.Shelf.agrees c.report.new.shelf) c.args.path.now stored c.args.shelf.now c.read_all.new.shelf
    c.report.new.shelf (g.S.Shelf.agrees c.read_all.new.shelf) c.in_ok-inputs.inputs
    (course {T = Vec FleetRow Global} (Err c.in_err-rows.field-0.0)) c.in_err-rows.ensures.answers_stay c.in_ok-inputs.ensures.prepares
    c.in_ok-inputs.ensures.asks_in_order c.in_err-rows.ensures.asks_in_order)

pub returns-clause-asks_in_order : goal.returns-clause-asks_in_order
returns-clause-asks_in_order g c =
    let stored = stored_by (λ test. test.id) (λ test. test.range) (λ test shown answer. (goal.Fn-dyn g).post (test.check.vtable, test.check.value) (shown, tt) answer) c.args.tests.now in
    reads_units g.S.Shelf.asks (g.S.Shelf.agrees c.report.new.shelf) c.args.path.now stored c.args.shelf.now c.read_all.new.shelf
    c.report.new.shelf (g.S.Shelf.agrees c.read_all.new.shelf) c.in_ok-inputs.inputs Whole c.in_ok-rows.ensures.answers_stay
    c.in_ok-inputs.ensures.prepares c.in_ok-inputs.ensures.asks_in_order c.in_ok-rows.ensures.asks_in_order
