use Rattle.std.proofs.Common.{◌≡◌, Some}
use Rattle.asked_service.specs.host_io.Agreeing.{ForFiles}
use Rattle.asked_service.proofs.OfUnitInputs.FileCommands.{at_stop}
use Rattle.asked_service.proofs.Started.{is_settled}
use Rattle.asked_service.proofs.OfUnitInputs.Ordering.{order_quiet}
use Rattle.asked_service.proofs.OfUnitInputs.Reading.{read_then}
use Rattle.asked_service.proofs.OfUnitInputs.Steps.{settled, stops_at_inputs}
use Rattle.asked_service.specs.unit_inputs.Asking.{input_asks}
use Rattle.asked_service.specs.unit_inputs.Inputs.{inputs_of, inputs_view}
use Rattle.asked_service.specs.unit_inputs.Settled.{refusals_by, refusals_of, unit_refusals}
use Rattle.asked_service.specs.unit_inputs.command_answers.CommandErrors.{Prepares}
use Rattle.judge_command.specs.Prepared.{IsPrepared}
use Rattle.judge_command.proofs.preparing.prepare.Goals as goal

pub returns-clause-prepares : goal.returns-clause-prepares
returns-clause-prepares g c =
    settled (g.S.Shelf.agrees c.read_inputs.new.shelf) c.args.unit.now c.in_ok-inputs.inputs c.settle.result
    c.in_ok-inputs.ensures.reads_by_the_files c.settle.ensures.settles

pub returns-clause-is_settled : goal.returns-clause-is_settled
returns-clause-is_settled g c = is_settled c.args.unit.now c.in_ok-inputs.inputs c.settle.result c.settle.ensures.settles

pub returns-clause-reads_for_the_unit : goal.returns-clause-reads_for_the_unit
returns-clause-reads_for_the_unit g c = read_then g.S.Shelf.agrees g.S.Shelf.faults c.args.unit.now _ _ c.in_ok-inputs.inputs
    c.in_ok-inputs.ensures.reads_for_the_unit c.settle.result c.settle.ensures.reads_nothing

pub returns-clause-asks_in_order : goal.returns-clause-asks_in_order
returns-clause-asks_in_order g c =
    order_quiet g.S.Shelf.asks (g.S.Shelf.agrees c.read_inputs.new.shelf)
    (λ files. input_asks files c.args.unit.now) c.args.shelf.now c.read_inputs.new.shelf c.settle.result
    c.settle.ensures.reads_nothing c.in_ok-inputs.ensures.asks_in_order

pub returns-in_err-inputs-clause-prepares : goal.returns-in_err-inputs-clause-prepares
returns-in_err-inputs-clause-prepares g c =
    at_stop (λ result. ForFiles (g.S.Shelf.agrees c.read_inputs.new.shelf)
    (λ files. Prepares (IsPrepared files c.args.unit.now) (unit_refusals files c.args.unit.now) result)) c.from_residual.result
    c.in_err-inputs.field-0.0 c.from_residual.ensures.1
    (stops_at_inputs (λ files inputs. inputs_of files c.args.unit.now ≡ Some (inputs_view inputs))
    (λ files. IsPrepared files c.args.unit.now) (g.S.Shelf.agrees c.read_inputs.new.shelf) c.args.unit.now
    (λ files. refusals_by (refusals_of c.args.unit.now) (inputs_of files c.args.unit.now)) c.in_err-inputs.field-0.0
    c.in_err-inputs.ensures.reads_by_the_files)
