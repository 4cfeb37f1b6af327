use Rattle.std.proofs.Common.{ap, ◌∙◌}
use Rattle.asked_service.specs.unit_inputs.command_answers.CommandErrors.{Prepares}
use Rattle.asked_service.proofs.OfUnitInputs.FileCommands.{at_stop}
use Rattle.replay_command.specs.Prepared.{IsPrepared, settled_refusals}
use Rattle.replay_command.proofs.Steps.{can_start, is_prepared, script_is, stops_at_inputs, stops_at_script}
use Rattle.replay_command.proofs.Steps.{stops_at_settings}
use Rattle.asked_service.specs.unit_inputs.Asking.{asks_with_file}
use Rattle.asked_service.specs.host_io.Agreeing.{ForFiles}
use Rattle.asked_service.specs.host_io.Calls.{Whole}
use Rattle.asked_service.specs.unit_inputs.declared.settling.SettledUnit.{SettledUnit}
use Rattle.asked_service.specs.kernel_model.declared.kernel_calls.call.Call.{Call}
use Rattle.std.proofs.Common.{List}
use Rattle.asked_service.proofs.OfUnitInputs.Ordering.{order_quiet_stopped, stops_at_file, stops_before_file, with_file}
use Rattle.replay_command.proofs.preparing.prepare.Goals as goal

pub returns-clause-prepares : goal.returns-clause-prepares
returns-clause-prepares g c =
    is_prepared c.args.unit.now c.args.script.now c.in_ok-inputs.inputs c.in_ok-made.made c.in_ok-one.one c.in_ok-one.ensures.settles
    (g.S.Shelf.agrees c.read_script.new.shelf)
    (λ files agree. c.in_ok-inputs.ensures.reads_by_the_files files (c.in_ok-made.ensures.answers_stay files agree))
    (script_is (g.S.Shelf.agrees c.read_script.new.shelf) c.args.script.now c.in_ok-inputs.inputs
    c.deref.result.now c.in_ok-made.made c.deref.ensures
    c.in_ok-made.ensures.reads_the_script)

pub returns-clause-can_be_started : goal.returns-clause-can_be_started
returns-clause-can_be_started g c =
    can_start c.args.unit.now c.args.script.now c.in_ok-inputs.inputs c.in_ok-made.made c.in_ok-one.one c.in_ok-one.ensures.settles
    c.list.result.now c.list.ensures.all_in_order c.calls_fit.ensures

pub returns-in_err-inputs-clause-asks_in_order : goal.returns-in_err-inputs-clause-asks_in_order
returns-in_err-inputs-clause-asks_in_order g c =
    stops_before_file g.S.Shelf.asks (g.S.Shelf.agrees c.read_inputs.new.shelf) c.args.unit.now c.args.script.now c.args.shelf.now _
    c.from_residual.result c.in_err-inputs.field-0.0 c.from_residual.ensures.1
    c.in_err-inputs.ensures.reads_by_the_files c.in_err-inputs.ensures.asks_in_order

pub returns-in_err-made-clause-asks_in_order : goal.returns-in_err-made-clause-asks_in_order
returns-in_err-made-clause-asks_in_order g c =
    stops_at_file g.S.Shelf.asks (g.S.Shelf.agrees c.read_script.new.shelf) c.args.unit.now c.args.script.now c.args.shelf.now
    c.read_inputs.new.shelf (List Call) c.read_script.new.shelf (g.S.Shelf.agrees c.read_inputs.new.shelf) c.in_ok-inputs.inputs
    c.from_residual-in_err-made.result c.in_err-made.field-0.0 c.from_residual-in_err-made.ensures.1
    c.in_err-made.ensures.answers_stay c.in_ok-inputs.ensures.reads_by_the_files c.in_ok-inputs.ensures.asks_in_order
    c.in_err-made.ensures.asks_for_it

pub returns-in_err-one-clause-asks_in_order : goal.returns-in_err-one-clause-asks_in_order
returns-in_err-one-clause-asks_in_order g c =
    order_quiet_stopped g.S.Shelf.asks (g.S.Shelf.agrees c.read_script.new.shelf)
    (λ files. asks_with_file files c.args.unit.now c.args.script.now) c.args.shelf.now c.read_script.new.shelf SettledUnit
    c.from_residual-in_err-one.result c.in_err-one.field-0.0 c.from_residual-in_err-one.ensures.1 c.in_err-one.ensures.reads_nothing
    (with_file g.S.Shelf.asks (g.S.Shelf.agrees c.read_script.new.shelf) c.args.unit.now c.args.script.now c.args.shelf.now c.read_inputs.new.shelf
    c.read_script.new.shelf (g.S.Shelf.agrees c.read_inputs.new.shelf) c.in_ok-inputs.inputs Whole
    c.in_ok-made.ensures.answers_stay c.in_ok-inputs.ensures.reads_by_the_files c.in_ok-inputs.ensures.asks_in_order
    c.in_ok-made.ensures.asks_for_it)

pub returns-clause-asks_in_order : goal.returns-clause-asks_in_order
returns-clause-asks_in_order g c =
    with_file g.S.Shelf.asks (g.S.Shelf.agrees c.read_script.new.shelf) c.args.unit.now c.args.script.now c.args.shelf.now c.read_inputs.new.shelf
    c.read_script.new.shelf (g.S.Shelf.agrees c.read_inputs.new.shelf) c.in_ok-inputs.inputs Whole
    c.in_ok-made.ensures.answers_stay c.in_ok-inputs.ensures.reads_by_the_files c.in_ok-inputs.ensures.asks_in_order
    c.in_ok-made.ensures.asks_for_it

pub returns-in_err-inputs-clause-prepares : goal.returns-in_err-inputs-clause-prepares
returns-in_err-inputs-clause-prepares g c =
    at_stop (λ result. ForFiles (g.S.Shelf.agrees c.read_inputs.new.shelf)
    (λ files. Prepares (IsPrepared files c.args.unit.now c.args.script.now)
    (settled_refusals files c.args.unit.now c.args.script.now) result)) c.from_residual.result c.in_err-inputs.field-0.0
    c.from_residual.ensures.1
    (stops_at_inputs (λ inputs. Unit {0}) (g.S.Shelf.agrees c.read_inputs.new.shelf) c.args.unit.now c.args.script.now c.in_err-inputs.field-0.0
    c.in_err-inputs.ensures.reads_by_the_files)

pub returns-in_err-made-clause-prepares : goal.returns-in_err-made-clause-prepares
returns-in_err-made-clause-prepares g c =
    at_stop (λ result. ForFiles (g.S.Shelf.agrees c.read_script.new.shelf)
    (λ files. Prepares (IsPrepared files c.args.unit.now c.args.script.now)
    (settled_refusals files c.args.unit.now c.args.script.now) result)) c.from_residual-in_err-made.result c.in_err-made.field-0.0
    c.from_residual-in_err-made.ensures.1
    (stops_at_script (g.S.Shelf.agrees c.read_inputs.new.shelf) (g.S.Shelf.agrees c.read_script.new.shelf) c.args.unit.now c.args.script.now
    c.in_ok-inputs.inputs c.deref.result.now c.in_err-made.field-0.0 c.in_err-made.ensures.answers_stay c.deref.ensures
    c.in_ok-inputs.ensures.reads_by_the_files c.in_err-made.ensures.reads_the_script)

pub returns-in_err-one-clause-prepares : goal.returns-in_err-one-clause-prepares
returns-in_err-one-clause-prepares g c =
    at_stop (λ result. ForFiles (g.S.Shelf.agrees c.read_script.new.shelf)
    (λ files. Prepares (IsPrepared files c.args.unit.now c.args.script.now)
    (settled_refusals files c.args.unit.now c.args.script.now) result)) c.from_residual-in_err-one.result c.in_err-one.field-0.0
    c.from_residual-in_err-one.ensures.1
    (stops_at_settings (λ one. Unit {0}) (g.S.Shelf.agrees c.read_script.new.shelf) c.args.unit.now c.args.script.now c.in_ok-inputs.inputs
    c.in_ok-made.made c.in_err-one.field-0.0 (λ files agree. c.in_ok-inputs.ensures.reads_by_the_files files (c.in_ok-made.ensures.answers_stay files agree))
    (script_is (g.S.Shelf.agrees c.read_script.new.shelf) c.args.script.now c.in_ok-inputs.inputs
    c.deref.result.now c.in_ok-made.made c.deref.ensures
    c.in_ok-made.ensures.reads_the_script) c.in_err-one.ensures.settles)
