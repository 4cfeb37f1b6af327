use Rattle.std.proofs.lemmas.List.Sorted.{All-permutation}
use Rattle.report_text.specs.exposure_score.StoredTests.{stored_by}
use Rattle.report_text.specs.exposure_score.policy_weights.Weights.{weight_of}
use Rattle.score_command.specs.fleet_command.fleet_report.Outcomes.{IsRowOf, TellsNoFault}
use Rattle.score_command.proofs.Came.{passed_on, weighs_something}
use Rattle.score_command.proofs.Gathered.{names_ordered, rows_ordered}
use Rattle.score_command.proofs.fleet_command.fleet_report.reporting.fleet.Goals as goal

pub returns-in_err-rows-clause-no_weight : goal.returns-in_err-rows-clause-no_weight
returns-in_err-rows-clause-no_weight g c =
    let stored = stored_by (λ test. test.id) (λ test. test.range) (λ test shown answer. (goal.Fn-dyn g).post (test.check.vtable, test.check.value) (shown, tt) answer) c.args.tests.now in
    weighs_something c.from_residual.result (weight_of c.args.calls.now stored c.args.policy.now) c.weighs.result
    c.weighs.ensures.some_weight c.if-not-weighs.false
    (passed_on c.from_residual.result c.in_err-rows.field-0.0 c.from_residual.ensures.1 c.in_err-rows.ensures.never_weightless)

pub returns-in_err-rows-clause-unread_without_weight : goal.returns-in_err-rows-clause-unread_without_weight
returns-in_err-rows-clause-unread_without_weight g c = λ weightless.
    absurd (passed_on c.from_residual.result c.in_err-rows.field-0.0 c.from_residual.ensures.1 c.in_err-rows.ensures.never_weightless
    weightless)

pub returns-clause-a_row_a_name : goal.returns-clause-a_row_a_name
returns-clause-a_row_a_name g c = names_ordered c.in_ok-rows.rows.items c.ordered_rows.result.items c.args.names.now
    c.in_ok-rows.ensures.a_row_a_name c.ordered_rows.ensures.the_same

pub returns-clause-by_their_files : goal.returns-clause-by_their_files
returns-clause-by_their_files g c =
    let stored = stored_by (λ test. test.id) (λ test. test.range) (λ test shown answer. (goal.Fn-dyn g).post (test.check.vtable, test.check.value) (shown, tt) answer) c.args.tests.now in
    rows_ordered (λ files. IsRowOf files c.args.calls.now c.args.site.now c.args.policy.now stored)
    (g.S.Shelf.agrees c.rows_of.new.shelf) c.in_ok-rows.rows.items c.ordered_rows.result.items c.ordered_rows.ensures.the_same
    c.in_ok-rows.ensures.by_their_files

pub returns-clause-tells_no_fault : goal.returns-clause-tells_no_fault
returns-clause-tells_no_fault g c = All-permutation (λ row. TellsNoFault row.outcome) c.in_ok-rows.rows.items c.ordered_rows.result.items
    c.ordered_rows.ensures.the_same c.in_ok-rows.ensures.tells_no_fault
