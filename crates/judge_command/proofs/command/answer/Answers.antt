use Rattle.asked_service.proofs.OfUnitInputs.Stopped.{ran_stopped}
use Rattle.judge_command.proofs.Prepared.{stops_before_paths}
use Rattle.judge_command.proofs.Runs.{ran_prepared, together}
use Rattle.judge_command.specs.Prepared.{IsPrepared}
use Rattle.judge_command.specs.Prints.{judge_laws}
use Rattle.asked_service.specs.unit_inputs.Asking.{input_asks}
use Rattle.asked_service.specs.unit_inputs.declared.settling.SettledUnit.{SettledUnit}
use Rattle.asked_service.proofs.OfUnitInputs.Ended.{order_stop}
use Rattle.judge_command.proofs.InOrder.{order_started}
use Rattle.judge_command.proofs.command.answer.Goals as goal

pub returns-in-Ok-clause-runs : goal.returns-in-Ok-clause-runs
returns-in-Ok-clause-runs g c =
    ran_prepared c.truths.ensures.answers c.truths.ensures.folders
    (g.S.Shelf.agrees c.prepare.new.shelf) c.args.unit.now _ c.answer_prepared.result c.in-Ok.one c.in-Ok.ensures.is_settled c.in-Ok.ensures.prepares
    c.in-Ok.ensures.reads_for_the_unit.fault_rose c.answer_prepared.ensures.finishes

pub returns-in-Err-clause-runs : goal.returns-in-Err-clause-runs
returns-in-Err-clause-runs g c =
    ran_stopped (judge_laws c.args.unit.now) (λ files. IsPrepared files c.args.unit.now) (g.S.Shelf.agrees c.prepare.new.shelf)
    (together (g.S.Shelf.agrees c.prepare.new.shelf) c.args.unit.now) _ c.finish_error.result c.in-Err.stop
    (stops_before_paths (g.S.Shelf.agrees c.prepare.new.shelf) c.args.unit.now c.in-Err.stop c.in-Err.ensures.prepares)
    c.in-Err.ensures.reads_for_the_unit.reads_for_a_name c.in-Err.ensures.reads_for_the_unit.fault_rose c.finish_error.ensures.finishes

pub returns-in-Ok-clause-asks_in_order : goal.returns-in-Ok-clause-asks_in_order
returns-in-Ok-clause-asks_in_order g c =
    order_started g.S.Shelf.asks (g.S.Shelf.agrees c.prepare.new.shelf)
    (λ files. input_asks files c.args.unit.now) c.args.shelf.now c.prepare.new.shelf c.args.unit.now c.in-Ok.one
    c.answer_prepared.result _ c.answer_prepared.ensures.finishes c.in-Ok.ensures.asks_in_order

pub returns-in-Err-clause-asks_in_order : goal.returns-in-Err-clause-asks_in_order
returns-in-Err-clause-asks_in_order g c =
    order_stop g.S.Shelf.asks (g.S.Shelf.agrees c.prepare.new.shelf)
    (λ files. input_asks files c.args.unit.now) c.args.shelf.now c.prepare.new.shelf SettledUnit c.in-Err.stop c.finish_error.result _
    c.finish_error.ensures.finishes c.in-Err.ensures.asks_in_order
