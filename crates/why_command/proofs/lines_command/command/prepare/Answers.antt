use Rattle.std.proofs.Common.{◌≡◌, Some}
use Rattle.asked_service.specs.unit_inputs.command_answers.Laws.{IsAdmitted, laws_over}
use Rattle.asked_service.proofs.OfUnitInputs.FileCommands.{at_stop}
use Rattle.asked_service.specs.launching.Starting.{given}
use Rattle.asked_service.specs.unit_inputs.Asking.{input_asks}
use Rattle.asked_service.specs.unit_inputs.Inputs.{inputs_of, inputs_view}
use Rattle.asked_service.proofs.OfUnitInputs.Ordering.{order_quiet}
use Rattle.asked_service.proofs.Given.{same_inputs}
use Rattle.asked_service.proofs.OfUnitInputs.Reading.{read_then}
use Rattle.asked_service.specs.unit_inputs.command_answers.ReadyTexts.{status_of, text_of}
use Rattle.why_command.specs.lines_command.Prints.{lines_laws}
use Rattle.why_command.proofs.LinesCommandPrepared.{admitted_as, stops_at_inputs}
use Rattle.why_command.proofs.lines_command.command.prepare.Goals as goal

pub returns-in_err-inputs-clause-prepares : goal.returns-in_err-inputs-clause-prepares
returns-in_err-inputs-clause-prepares g c =
    at_stop (IsAdmitted (laws_over (g.S.Shelf.agrees c.read_inputs.new.shelf) (lines_laws c.args.unit.now)) status_of text_of)
    c.from_residual.result c.in_err-inputs.field-0.0 c.from_residual.ensures.1
    (stops_at_inputs (λ files inputs. inputs_of files c.args.unit.now ≡ Some (inputs_view inputs))
    (g.S.Shelf.agrees c.read_inputs.new.shelf) c.args.unit.now c.in_err-inputs.field-0.0 c.in_err-inputs.ensures.reads_by_the_files)

pub returns-clause-prepares : goal.returns-clause-prepares
returns-clause-prepares g c =
    admitted_as (g.S.Shelf.agrees c.read_inputs.new.shelf) c.args.unit.now c.in_ok-inputs.inputs c.in_ok-inputs.ensures.reads_by_the_files
    (given c.deref.result.now c.deref-2.result.now c.deref-3.result.now)
    (same_inputs (inputs_view c.in_ok-inputs.inputs) c.deref.result.now c.deref-2.result.now c.deref-3.result.now c.deref.ensures
    c.deref-2.ensures c.deref-3.ensures)
    c.answer.result c.answer.ensures.answers

pub returns-clause-reads_for_the_unit : goal.returns-clause-reads_for_the_unit
returns-clause-reads_for_the_unit g c =
    read_then g.S.Shelf.agrees g.S.Shelf.faults c.args.unit.now _ _ c.in_ok-inputs.inputs c.in_ok-inputs.ensures.reads_for_the_unit
    c.answer.result c.answer.ensures.reads_nothing

pub returns-clause-asks_in_order : goal.returns-clause-asks_in_order
returns-clause-asks_in_order g c =
    order_quiet g.S.Shelf.asks (g.S.Shelf.agrees c.read_inputs.new.shelf)
    (λ files. input_asks files c.args.unit.now) c.args.shelf.now c.read_inputs.new.shelf c.answer.result
    c.answer.ensures.reads_nothing c.in_ok-inputs.ensures.asks_in_order
