use Rattle.score_command.proofs.Steps.{can_weigh, is_prepared, stops_at_inputs, stops_at_policy, stops_at_settings}
use Rattle.unit_inputs.specs.Asking.{asks_with_file}
use Rattle.unit_inputs.specs.host_io.Agreeing.{ForFiles}
use Rattle.unit_inputs.specs.host_io.Calls.{Whole}
use Rattle.unit_inputs.specs.declared.settling.SettledUnit.{SettledUnit}
use Rattle.report_text.specs.exposure_score.declared.policy_file.policy.PolicyTest.{PolicyTest}
use Rattle.std.proofs.Common.{List}
use Rattle.unit_inputs.proofs.Ordering.{order_quiet_stopped, stops_at_file, stops_before_file, with_file}
use Rattle.unit_inputs.specs.command_answers.CommandErrors.{Prepares}
use Rattle.unit_inputs.proofs.FileCommands.{at_stop}
use Rattle.score_command.specs.Prepared.{IsPrepared}
use Rattle.score_command.specs.Refusals.{read_refusals}
use Rattle.score_command.proofs.preparing.read_all.Goals as goal

pub returns-clause-prepares : goal.returns-clause-prepares
returns-clause-prepares g c =
    is_prepared (g.S.Shelf.agrees c.read_policy.new.shelf) c.args.unit.now c.args.policy.now c.in_ok-inputs.inputs c.in_ok-weights.weights
    c.in_ok-one.one
    c.in_ok-one.ensures.settles.1.0 c.in_ok-one.ensures.settles.0 (λ files agree. c.in_ok-inputs.ensures.reads_by_the_files files (c.in_ok-weights.ensures.answers_stay files agree))
    c.in_ok-weights.ensures.reads_the_policy

pub returns-clause-can_be_weighed : goal.returns-clause-can_be_weighed
returns-clause-can_be_weighed g c =
    can_weigh c.args.unit.now c.in_ok-inputs.inputs c.in_ok-weights.weights c.in_ok-one.one c.in_ok-one.ensures.settles.1.0
    c.in_ok-one.ensures.settles.1.1 c.in_ok-one.ensures.settles.0

pub returns-in_err-inputs-clause-asks_in_order : goal.returns-in_err-inputs-clause-asks_in_order
returns-in_err-inputs-clause-asks_in_order g c =
    stops_before_file g.S.Shelf.asks (g.S.Shelf.agrees c.read_inputs.new.shelf) c.args.unit.now c.args.policy.now c.args.shelf.now _
    c.from_residual.result c.in_err-inputs.field-0.0 c.from_residual.ensures.1
    c.in_err-inputs.ensures.reads_by_the_files c.in_err-inputs.ensures.asks_in_order

pub returns-in_err-weights-clause-asks_in_order : goal.returns-in_err-weights-clause-asks_in_order
returns-in_err-weights-clause-asks_in_order g c =
    stops_at_file g.S.Shelf.asks (g.S.Shelf.agrees c.read_policy.new.shelf) c.args.unit.now c.args.policy.now c.args.shelf.now
    c.read_inputs.new.shelf (List PolicyTest) c.read_policy.new.shelf (g.S.Shelf.agrees c.read_inputs.new.shelf) c.in_ok-inputs.inputs
    c.from_residual-in_err-weights.result c.in_err-weights.field-0.0 c.from_residual-in_err-weights.ensures.1
    c.in_err-weights.ensures.answers_stay c.in_ok-inputs.ensures.reads_by_the_files c.in_ok-inputs.ensures.asks_in_order
    c.in_err-weights.ensures.asks_for_it

pub returns-in_err-one-clause-asks_in_order : goal.returns-in_err-one-clause-asks_in_order
returns-in_err-one-clause-asks_in_order g c =
    order_quiet_stopped g.S.Shelf.asks (g.S.Shelf.agrees c.read_policy.new.shelf)
    (λ files. asks_with_file files c.args.unit.now c.args.policy.now) c.args.shelf.now c.read_policy.new.shelf SettledUnit
    c.from_residual-in_err-one.result c.in_err-one.field-0.0 c.from_residual-in_err-one.ensures.1 c.in_err-one.ensures.reads_nothing
    (with_file g.S.Shelf.asks (g.S.Shelf.agrees c.read_policy.new.shelf) c.args.unit.now c.args.policy.now c.args.shelf.now c.read_inputs.new.shelf
    c.read_policy.new.shelf (g.S.Shelf.agrees c.read_inputs.new.shelf) c.in_ok-inputs.inputs Whole
    c.in_ok-weights.ensures.answers_stay c.in_ok-inputs.ensures.reads_by_the_files c.in_ok-inputs.ensures.asks_in_order
    c.in_ok-weights.ensures.asks_for_it)

pub returns-clause-asks_in_order : goal.returns-clause-asks_in_order
returns-clause-asks_in_order g c =
    with_file g.S.Shelf.asks (g.S.Shelf.agrees c.read_policy.new.shelf) c.args.unit.now c.args.policy.now c.args.shelf.now c.read_inputs.new.shelf
    c.read_policy.new.shelf (g.S.Shelf.agrees c.read_inputs.new.shelf) c.in_ok-inputs.inputs Whole
    c.in_ok-weights.ensures.answers_stay c.in_ok-inputs.ensures.reads_by_the_files c.in_ok-inputs.ensures.asks_in_order
    c.in_ok-weights.ensures.asks_for_it

pub returns-in_err-inputs-clause-prepares : goal.returns-in_err-inputs-clause-prepares
returns-in_err-inputs-clause-prepares g c =
    at_stop (λ result. ForFiles (g.S.Shelf.agrees c.read_inputs.new.shelf)
    (λ files. Prepares (IsPrepared files c.args.unit.now c.args.policy.now)
    (read_refusals files c.args.unit.now c.args.policy.now) result)) c.from_residual.result c.in_err-inputs.field-0.0
    c.from_residual.ensures.1
    (stops_at_inputs (λ inputs. Unit {0}) (g.S.Shelf.agrees c.read_inputs.new.shelf) c.args.unit.now c.args.policy.now c.in_err-inputs.field-0.0
    c.in_err-inputs.ensures.reads_by_the_files)

pub returns-in_err-weights-clause-prepares : goal.returns-in_err-weights-clause-prepares
returns-in_err-weights-clause-prepares g c =
    at_stop (λ result. ForFiles (g.S.Shelf.agrees c.read_policy.new.shelf)
    (λ files. Prepares (IsPrepared files c.args.unit.now c.args.policy.now)
    (read_refusals files c.args.unit.now c.args.policy.now) result)) c.from_residual-in_err-weights.result c.in_err-weights.field-0.0
    c.from_residual-in_err-weights.ensures.1
    (stops_at_policy (g.S.Shelf.agrees c.read_inputs.new.shelf) (g.S.Shelf.agrees c.read_policy.new.shelf) c.args.unit.now c.args.policy.now
    c.in_ok-inputs.inputs c.in_err-weights.field-0.0 c.in_err-weights.ensures.answers_stay
    c.in_ok-inputs.ensures.reads_by_the_files c.in_err-weights.ensures.reads_the_policy)

pub returns-in_err-one-clause-prepares : goal.returns-in_err-one-clause-prepares
returns-in_err-one-clause-prepares g c =
    at_stop (λ result. ForFiles (g.S.Shelf.agrees c.read_policy.new.shelf)
    (λ files. Prepares (IsPrepared files c.args.unit.now c.args.policy.now)
    (read_refusals files c.args.unit.now c.args.policy.now) result)) c.from_residual-in_err-one.result c.in_err-one.field-0.0
    c.from_residual-in_err-one.ensures.1
    (stops_at_settings (λ one. Unit {0}) (g.S.Shelf.agrees c.read_policy.new.shelf) c.args.unit.now c.args.policy.now c.in_ok-inputs.inputs
    c.in_ok-weights.weights c.in_err-one.field-0.0 (λ files agree. c.in_ok-inputs.ensures.reads_by_the_files files (c.in_ok-weights.ensures.answers_stay files agree))
    c.in_ok-weights.ensures.reads_the_policy c.in_err-one.ensures.settles)
