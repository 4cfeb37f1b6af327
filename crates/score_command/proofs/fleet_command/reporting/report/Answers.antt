use Rattle.std.proofs.Common.{Err, Global, Ok, Vec, ap, rules, sym, ◌∙◌}
use Rattle.report_text.specs.exposure_score.StoredTests.{stored_by}
use Rattle.report_text.specs.exposure_score.policy_weights.Weights.{weight_of}
use Rattle.unit_inputs.proofs.Asking.{told_line}
use Rattle.score_command.specs.fleet_command.fleet_report.Asking.{rows_asks, unless_weightless}
use Rattle.score_command.specs.declared.fleet_command.fleet_report.errors.FleetError.TheVariants as fleet
use Rattle.score_command.specs.declared.fleet_command.fleet_report.rows.FleetRow.{FleetRow}
use Rattle.unit_inputs.proofs.Ordering.{order_quiet}
use Rattle.score_command.proofs.Asked.{reported_so}
use Rattle.score_command.specs.fleet_command.Inputs.{inputs_view}
use Rattle.score_command.specs.fleet_command.Reports.{AreFleet}
use Rattle.score_command.proofs.Reported.{reported, weightless}
use Rattle.score_command.proofs.fleet_command.reporting.report.Goals as goal

pub returns-in-Ok-clause-reports : goal.returns-in-Ok-clause-reports
returns-in-Ok-clause-reports g c =
    let stored = stored_by (λ test. test.id) (λ test. test.range) (λ test shown answer. (goal.Fn-dyn g).post (test.check.vtable, test.check.value) (shown, tt) answer) c.args.tests.now in
    reported (g.S.Shelf.agrees c.fleet-rows.new.shelf) c.args.path.now c.args.inputs.now stored c.deref.result.now c.deref-2.result.now
    c.deref-3.result.now c.in-Ok.rows c.deref.ensures.value c.deref-2.ensures c.deref-3.ensures c.in-Ok.ensures.no_weight
    c.in-Ok.ensures.a_row_a_name c.in-Ok.ensures.by_their_files c.in-Ok.ensures.least_protected_first

pub returns-in-Err-NoWeight-clause-reports : goal.returns-in-Err-NoWeight-clause-reports
returns-in-Err-NoWeight-clause-reports g c =
    let stored = stored_by (λ test. test.id) (λ test. test.range) (λ test shown answer. (goal.Fn-dyn g).post (test.check.vtable, test.check.value) (shown, tt) answer) c.args.tests.now in
    weightless (g.S.Shelf.agrees c.fleet-rows.new.shelf)
    (λ files (rows : Vec FleetRow Global). AreFleet files (inputs_view c.args.inputs.now) stored rows.items) c.args.path.now
    (weight_of (inputs_view c.args.inputs.now).calls stored (inputs_view c.args.inputs.now).policy) c.refused_line.result c.refuse.result
    (ap (λ table. weight_of table stored (inputs_view c.args.inputs.now).policy) (sym c.deref-2.ensures)
    ∙ c.fleet-rows.ensures.no_weight.0 (search rules)) c.refuse.ensures.tells_the_line c.refused_line.ensures.tells_what_and_why

pub returns-in-Ok-clause-asks_in_order : goal.returns-in-Ok-clause-asks_in_order
returns-in-Ok-clause-asks_in_order g c =
    let stored = stored_by (λ test. test.id) (λ test. test.range) (λ test shown answer. (goal.Fn-dyn g).post (test.check.vtable, test.check.value) (shown, tt) answer) c.args.tests.now in
    reported_so g.S.Shelf.asks (g.S.Shelf.agrees c.fleet-rows.new.shelf) c.args.shelf.now c.fleet-rows.new.shelf c.args.inputs.now stored
    c.deref.result.now c.deref-2.result.now c.fleet-rows.result (Ok c.in-Ok.rows) c.deref.ensures.value c.deref-2.ensures
    (search rules) c.fleet-rows.ensures.asks_in_order

pub returns-in-Err-NoWeight-clause-asks_in_order : goal.returns-in-Err-NoWeight-clause-asks_in_order
returns-in-Err-NoWeight-clause-asks_in_order g c =
    let stored = stored_by (λ test. test.id) (λ test. test.range) (λ test shown answer. (goal.Fn-dyn g).post (test.check.vtable, test.check.value) (shown, tt) answer) c.args.tests.now in
    order_quiet g.S.Shelf.asks (g.S.Shelf.agrees c.fleet-rows.new.shelf)
    (λ files. unless_weightless (weight_of (inputs_view c.args.inputs.now).calls stored (inputs_view c.args.inputs.now).policy)
    (rows_asks files (inputs_view c.args.inputs.now).names))
    c.args.shelf.now c.fleet-rows.new.shelf {T = Vec FleetRow Global} (Err c.refuse.result)
    (told_line c.refused_line.result c.refuse.result c.refuse.ensures.tells_the_line)
    (reported_so g.S.Shelf.asks (g.S.Shelf.agrees c.fleet-rows.new.shelf) c.args.shelf.now c.fleet-rows.new.shelf c.args.inputs.now stored
    c.deref.result.now c.deref-2.result.now c.fleet-rows.result (Err fleet.NoWeight) c.deref.ensures.value c.deref-2.ensures
    (search rules) c.fleet-rows.ensures.asks_in_order)

pub returns-in-Err-ReadFault-clause-asks_in_order : goal.returns-in-Err-ReadFault-clause-asks_in_order
returns-in-Err-ReadFault-clause-asks_in_order g c =
    let stored = stored_by (λ test. test.id) (λ test. test.range) (λ test shown answer. (goal.Fn-dyn g).post (test.check.vtable, test.check.value) (shown, tt) answer) c.args.tests.now in
    reported_so g.S.Shelf.asks (g.S.Shelf.agrees c.fleet-rows.new.shelf) c.args.shelf.now c.fleet-rows.new.shelf c.args.inputs.now stored
    c.deref.result.now c.deref-2.result.now c.fleet-rows.result (Err fleet.ReadFault) c.deref.ensures.value c.deref-2.ensures
    (search rules) c.fleet-rows.ensures.asks_in_order

pub returns-in-Err-Memory-clause-asks_in_order : goal.returns-in-Err-Memory-clause-asks_in_order
returns-in-Err-Memory-clause-asks_in_order g c =
    let stored = stored_by (λ test. test.id) (λ test. test.range) (λ test shown answer. (goal.Fn-dyn g).post (test.check.vtable, test.check.value) (shown, tt) answer) c.args.tests.now in
    reported_so g.S.Shelf.asks (g.S.Shelf.agrees c.fleet-rows.new.shelf) c.args.shelf.now c.fleet-rows.new.shelf c.args.inputs.now stored
    c.deref.result.now c.deref-2.result.now c.fleet-rows.result (Err fleet.Memory) c.deref.ensures.value c.deref-2.ensures
    (search rules) c.fleet-rows.ensures.asks_in_order
