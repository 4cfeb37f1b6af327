use Rattle.report_text.specs.exposure_score.StoredTests.{stored_by}
use Rattle.unit_inputs.specs.command_answers.Laws.{IsAdmitted, laws_over}
use Rattle.unit_inputs.proofs.FileCommands.{at_stop}
use Rattle.score_command.specs.Prints.{status_of, score_laws, scored_text}
use Rattle.score_command.specs.Weighed.{IsScoreOf}
use Rattle.unit_inputs.proofs.Reading.{read_then_stopped}
use Rattle.score_command.proofs.Prepared.{ready, stops_at_weights, stops_before_weighing}
use Rattle.unit_inputs.specs.Asking.{asks_with_file}
use Rattle.report_text.specs.exposure_score.declared.rows.Score.{Score}
use Rattle.unit_inputs.proofs.Ordering.{order_cut, order_quiet_stopped}
use Rattle.std.proofs.lemmas.Result.{err_from_is_err_and}
use Rattle.score_command.proofs.command.prepare.Goals as goal

pub returns-in_err-prepared-clause-prepares : goal.returns-in_err-prepared-clause-prepares
returns-in_err-prepared-clause-prepares g c =
    let stored = stored_by (λ test. test.id) (λ test. test.range) (λ test shown answer. (goal.Fn-dyn g).post (test.check.vtable, test.check.value) (shown, tt) answer) c.args.tests.now in
    at_stop (IsAdmitted (laws_over (g.S.Shelf.agrees c.read_all.new.shelf)
    (score_laws c.args.unit.now c.args.policy.now c.args.threshold stored)) status_of scored_text) c.from_residual.result
    c.in_err-prepared.field-0.0 c.from_residual.ensures.1
    (stops_before_weighing (g.S.Shelf.agrees c.read_all.new.shelf) c.args.unit.now c.args.policy.now c.args.threshold stored
    c.in_err-prepared.field-0.0 c.in_err-prepared.ensures.prepares)

pub returns-in_err-score-clause-prepares : goal.returns-in_err-score-clause-prepares
returns-in_err-score-clause-prepares g c =
    let stored = stored_by (λ test. test.id) (λ test. test.range) (λ test shown answer. (goal.Fn-dyn g).post (test.check.vtable, test.check.value) (shown, tt) answer) c.args.tests.now in
    at_stop (IsAdmitted (laws_over (g.S.Shelf.agrees c.read_all.new.shelf)
    (score_laws c.args.unit.now c.args.policy.now c.args.threshold stored)) status_of scored_text) c.from_residual-in_err-score.result
    c.in_err-score.field-0.0 c.from_residual-in_err-score.ensures.1
    (stops_at_weights (g.S.Shelf.agrees c.read_all.new.shelf) c.args.unit.now c.args.policy.now c.args.threshold stored
    c.in_ok-prepared.prepared c.in_ok-known.known c.in_ok-known.ensures.known
    (IsScoreOf stored c.in_ok-known.known c.in_ok-prepared.prepared.policy) c.in_err-score.field-0.0 c.in_ok-prepared.ensures.prepares
    c.in_err-score.ensures.weighs)

pub returns-in_err-score-clause-reads_for_the_unit : goal.returns-in_err-score-clause-reads_for_the_unit
returns-in_err-score-clause-reads_for_the_unit g c =
    read_then_stopped g.S.Shelf.agrees g.S.Shelf.faults c.args.unit.now _ _ c.in_ok-prepared.prepared
    c.in_ok-prepared.ensures.reads_for_the_unit
    c.from_residual-in_err-score.result c.in_err-score.field-0.0 c.from_residual-in_err-score.ensures.1 c.in_err-score.ensures.reads_nothing

pub returns-clause-prepares : goal.returns-clause-prepares
returns-clause-prepares g c =
    let stored = stored_by (λ test. test.id) (λ test. test.range) (λ test shown answer. (goal.Fn-dyn g).post (test.check.vtable, test.check.value) (shown, tt) answer) c.args.tests.now in
    ready (g.S.Shelf.agrees c.read_all.new.shelf) c.args.unit.now c.args.policy.now c.args.threshold stored c.in_ok-prepared.prepared
    c.in_ok-known.known c.in_ok-known.ensures.known
    c.in_ok-score.score c.in_ok-prepared.ensures.can_be_weighed c.in_ok-prepared.ensures.prepares c.in_ok-score.ensures.weighs

pub returns-in_err-score-clause-asks_in_order : goal.returns-in_err-score-clause-asks_in_order
returns-in_err-score-clause-asks_in_order g c =
    order_quiet_stopped g.S.Shelf.asks (g.S.Shelf.agrees c.read_all.new.shelf)
    (λ files. asks_with_file files c.args.unit.now c.args.policy.now) c.args.shelf.now c.read_all.new.shelf Score
    c.from_residual-in_err-score.result c.in_err-score.field-0.0 c.from_residual-in_err-score.ensures.1
    c.in_err-score.ensures.reads_nothing c.in_ok-prepared.ensures.asks_in_order

pub returns-in_err-known-clause-asks_in_order : goal.returns-in_err-known-clause-asks_in_order
returns-in_err-known-clause-asks_in_order g c =
    let p = err_from_is_err_and c.from_residual-in_err-known.result c.from_residual-in_err-known.ensures.1 in
    rw (p.1, p.2)
    (order_cut g.S.Shelf.asks (g.S.Shelf.agrees c.read_all.new.shelf)
    (λ files. asks_with_file files c.args.unit.now c.args.policy.now) c.args.shelf.now c.read_all.new.shelf
    c.in_ok-prepared.ensures.asks_in_order)
