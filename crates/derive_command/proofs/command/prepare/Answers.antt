use Rattle.std.proofs.Common.{◌≡◌, Some, refl}
use Rattle.asked_service.specs.unit_inputs.command_answers.Laws.{IsAdmitted, laws_over}
use Rattle.asked_service.proofs.OfUnitInputs.FileCommands.{at_stop}
use Rattle.asked_service.specs.unit_names.Cutting.{name_of}
use Rattle.asked_service.specs.unit_inputs.Inputs.{inputs_of, inputs_view}
use Rattle.asked_service.specs.launching.Starting.{given}
use Rattle.asked_service.proofs.Given.{same_inputs}
use Rattle.asked_service.proofs.OfUnitInputs.Reading.{named, read_behind}
use Rattle.asked_service.specs.unit_inputs.command_answers.ReadyTexts.{status_of, text_of}
use Rattle.derive_command.specs.Prints.{derive_laws}
use Rattle.derive_command.proofs.Prepared.{admitted_as, stops_at_inputs, stops_at_script}
use Rattle.asked_service.specs.unit_inputs.Asking.{asks_with_file}
use Rattle.asked_service.specs.host_io.Calls.{Whole}
use Rattle.asked_service.specs.kernel_model.declared.kernel_calls.call.Call.{Call}
use Rattle.std.proofs.Common.{List}
use Rattle.asked_service.proofs.OfUnitInputs.Ordering.{order_quiet, stops_at_file, stops_before_file, with_file}
use Rattle.derive_command.proofs.command.prepare.Goals as goal

pub returns-in_err-inputs-clause-prepares : goal.returns-in_err-inputs-clause-prepares
returns-in_err-inputs-clause-prepares g c =
    at_stop (IsAdmitted (laws_over (g.S.Shelf.agrees c.read_inputs.new.shelf) (derive_laws c.args.unit.now c.args.script.now)) status_of text_of)
    c.from_residual.result c.in_err-inputs.field-0.0 c.from_residual.ensures.1
    (stops_at_inputs (λ files inputs. inputs_of files c.args.unit.now ≡ Some (inputs_view inputs))
    (g.S.Shelf.agrees c.read_inputs.new.shelf) c.args.unit.now c.args.script.now c.in_err-inputs.field-0.0
    c.in_err-inputs.ensures.reads_by_the_files)

pub returns-in_err-made-clause-prepares : goal.returns-in_err-made-clause-prepares
returns-in_err-made-clause-prepares g c =
    at_stop (IsAdmitted (laws_over (g.S.Shelf.agrees c.read_script.new.shelf) (derive_laws c.args.unit.now c.args.script.now)) status_of text_of)
    c.from_residual-in_err-made.result c.in_err-made.field-0.0 c.from_residual-in_err-made.ensures.1
    (stops_at_script (g.S.Shelf.agrees c.read_inputs.new.shelf) (g.S.Shelf.agrees c.read_script.new.shelf) c.args.unit.now c.args.script.now
    c.in_ok-inputs.inputs c.deref.result.now c.in_err-made.field-0.0 c.in_err-made.ensures.answers_stay c.deref.ensures
    c.in_ok-inputs.ensures.reads_by_the_files c.in_err-made.ensures.reads_the_script)

pub returns-clause-prepares : goal.returns-clause-prepares
returns-clause-prepares g c =
    admitted_as (g.S.Shelf.agrees c.read_inputs.new.shelf) (g.S.Shelf.agrees c.read_script.new.shelf) c.args.unit.now c.args.script.now
    c.in_ok-inputs.inputs c.deref.result.now c.in_ok-made.made c.in_ok-made.ensures.answers_stay c.deref.ensures
    c.in_ok-inputs.ensures.reads_by_the_files c.in_ok-made.ensures.reads_the_script
    (given c.deref-2.result.now c.deref-3.result.now c.deref-4.result.now) c.in_ok-made.made c.answer.result
    (same_inputs (inputs_view c.in_ok-inputs.inputs) c.deref-2.result.now c.deref-3.result.now c.deref-4.result.now c.deref-2.ensures
    c.deref-3.ensures c.deref-4.ensures) refl c.answer.ensures.answers

pub returns-clause-reads_for_the_unit : goal.returns-clause-reads_for_the_unit
returns-clause-reads_for_the_unit g c =
    read_behind g.S.Shelf.agrees g.S.Shelf.faults c.args.unit.now _ _ _ c.in_ok-inputs.inputs c.in_ok-made.made
    c.in_ok-inputs.ensures.reads_for_the_unit
    (named (name_of c.args.unit.now) c.in_ok-inputs.inputs.unit.value.name c.in_ok-inputs.ensures.names_the_unit)
    c.in_ok-made.ensures.answers_stay c.in_ok-made.ensures.fault_rose c.answer.result c.answer.ensures.reads_nothing

pub returns-in_err-inputs-clause-asks_in_order : goal.returns-in_err-inputs-clause-asks_in_order
returns-in_err-inputs-clause-asks_in_order g c =
    stops_before_file g.S.Shelf.asks (g.S.Shelf.agrees c.read_inputs.new.shelf) c.args.unit.now c.args.script.now c.args.shelf.now _
    c.from_residual.result c.in_err-inputs.field-0.0 c.from_residual.ensures.1
    c.in_err-inputs.ensures.reads_by_the_files c.in_err-inputs.ensures.asks_in_order

pub returns-in_err-made-clause-asks_in_order : goal.returns-in_err-made-clause-asks_in_order
returns-in_err-made-clause-asks_in_order g c =
    stops_at_file g.S.Shelf.asks (g.S.Shelf.agrees c.read_script.new.shelf) c.args.unit.now c.args.script.now c.args.shelf.now
    c.read_inputs.new.shelf (List Call) c.read_script.new.shelf (g.S.Shelf.agrees c.read_inputs.new.shelf) c.in_ok-inputs.inputs
    c.from_residual-in_err-made.result c.in_err-made.field-0.0 c.from_residual-in_err-made.ensures.1
    c.in_err-made.ensures.answers_stay c.in_ok-inputs.ensures.reads_by_the_files c.in_ok-inputs.ensures.asks_in_order
    c.in_err-made.ensures.asks_for_it

pub returns-clause-asks_in_order : goal.returns-clause-asks_in_order
returns-clause-asks_in_order g c =
    order_quiet g.S.Shelf.asks (g.S.Shelf.agrees c.read_script.new.shelf)
    (λ files. asks_with_file files c.args.unit.now c.args.script.now) c.args.shelf.now c.read_script.new.shelf c.answer.result
    c.answer.ensures.reads_nothing
    (with_file g.S.Shelf.asks (g.S.Shelf.agrees c.read_script.new.shelf) c.args.unit.now c.args.script.now c.args.shelf.now c.read_inputs.new.shelf
    c.read_script.new.shelf (g.S.Shelf.agrees c.read_inputs.new.shelf) c.in_ok-inputs.inputs Whole
    c.in_ok-made.ensures.answers_stay c.in_ok-inputs.ensures.reads_by_the_files c.in_ok-inputs.ensures.asks_in_order
    c.in_ok-made.ensures.asks_for_it)
