use Rattle.std.proofs.Common.{◌≡◌, Some}
use Rattle.asked_service.specs.unit_inputs.command_answers.Laws.{IsAdmitted, laws_over}
use Rattle.asked_service.proofs.OfUnitInputs.FileCommands.{at_stop}
use Rattle.asked_service.specs.unit_names.Cutting.{name_of}
use Rattle.asked_service.specs.unit_inputs.Inputs.{inputs_of, inputs_view}
use Rattle.asked_service.specs.launching.Starting.{given}
use Rattle.asked_service.proofs.Given.{same_inputs}
use Rattle.asked_service.proofs.OfUnitInputs.Reading.{named, read_behind}
use Rattle.asked_service.specs.unit_inputs.command_answers.ReadyTexts.{status_of, text_of}
use Rattle.effect_command.specs.Prints.{effect_laws}
use Rattle.effect_command.proofs.Prepared.{admitted_as, stops_at_dropin, stops_at_inputs}
use Rattle.asked_service.specs.unit_inputs.Asking.{asks_with_file}
use Rattle.asked_service.specs.host_io.Calls.{Whole}
use Rattle.asked_service.specs.unit_grammar.declared.unit.UnitText.{UnitText}
use Rattle.asked_service.proofs.OfUnitInputs.Ordering.{order_quiet, stops_at_file, stops_before_file, with_file}
use Rattle.effect_command.proofs.command.prepare.Goals as goal

pub returns-in_err-inputs-clause-prepares : goal.returns-in_err-inputs-clause-prepares
returns-in_err-inputs-clause-prepares g c =
    at_stop (IsAdmitted (laws_over (g.S.Shelf.agrees c.read_inputs.new.shelf) (effect_laws c.args.unit.now c.args.path.now)) status_of text_of)
    c.from_residual.result c.in_err-inputs.field-0.0 c.from_residual.ensures.1
    (stops_at_inputs (λ files inputs. inputs_of files c.args.unit.now ≡ Some (inputs_view inputs))
    (g.S.Shelf.agrees c.read_inputs.new.shelf) c.args.unit.now c.args.path.now c.in_err-inputs.field-0.0
    c.in_err-inputs.ensures.reads_by_the_files)

pub returns-in_err-more-clause-prepares : goal.returns-in_err-more-clause-prepares
returns-in_err-more-clause-prepares g c =
    at_stop (IsAdmitted (laws_over (g.S.Shelf.agrees c.read_dropin.new.shelf) (effect_laws c.args.unit.now c.args.path.now)) status_of text_of)
    c.from_residual-in_err-more.result c.in_err-more.field-0.0 c.from_residual-in_err-more.ensures.1
    (stops_at_dropin (g.S.Shelf.agrees c.read_inputs.new.shelf) (g.S.Shelf.agrees c.read_dropin.new.shelf) c.args.unit.now c.args.path.now
    c.in_ok-inputs.inputs c.in_err-more.field-0.0 c.in_err-more.ensures.answers_stay
    c.in_ok-inputs.ensures.reads_by_the_files c.in_err-more.ensures.reads_the_dropin)

pub returns-clause-prepares : goal.returns-clause-prepares
returns-clause-prepares g c =
    admitted_as (g.S.Shelf.agrees c.read_inputs.new.shelf) (g.S.Shelf.agrees c.read_dropin.new.shelf) c.args.unit.now c.args.path.now
    c.in_ok-inputs.inputs c.in_ok-more.more c.in_ok-more.ensures.answers_stay
    c.in_ok-inputs.ensures.reads_by_the_files c.in_ok-more.ensures.reads_the_dropin
    (given c.deref.result.now c.deref-2.result.now c.deref-3.result.now) c.answer.result
    (same_inputs (inputs_view c.in_ok-inputs.inputs) c.deref.result.now c.deref-2.result.now c.deref-3.result.now c.deref.ensures
    c.deref-2.ensures c.deref-3.ensures) c.answer.ensures.answers

pub returns-clause-reads_for_the_unit : goal.returns-clause-reads_for_the_unit
returns-clause-reads_for_the_unit g c =
    read_behind g.S.Shelf.agrees g.S.Shelf.faults c.args.unit.now _ _ _ c.in_ok-inputs.inputs c.in_ok-more.more
    c.in_ok-inputs.ensures.reads_for_the_unit
    (named (name_of c.args.unit.now) c.in_ok-inputs.inputs.unit.value.name c.in_ok-inputs.ensures.names_the_unit)
    c.in_ok-more.ensures.answers_stay c.in_ok-more.ensures.fault_rose c.answer.result c.answer.ensures.reads_nothing

pub returns-in_err-inputs-clause-asks_in_order : goal.returns-in_err-inputs-clause-asks_in_order
returns-in_err-inputs-clause-asks_in_order g c =
    stops_before_file g.S.Shelf.asks (g.S.Shelf.agrees c.read_inputs.new.shelf) c.args.unit.now c.args.path.now c.args.shelf.now _
    c.from_residual.result c.in_err-inputs.field-0.0 c.from_residual.ensures.1
    c.in_err-inputs.ensures.reads_by_the_files c.in_err-inputs.ensures.asks_in_order

pub returns-in_err-more-clause-asks_in_order : goal.returns-in_err-more-clause-asks_in_order
returns-in_err-more-clause-asks_in_order g c =
    stops_at_file g.S.Shelf.asks (g.S.Shelf.agrees c.read_dropin.new.shelf) c.args.unit.now c.args.path.now c.args.shelf.now
    c.read_inputs.new.shelf UnitText c.read_dropin.new.shelf (g.S.Shelf.agrees c.read_inputs.new.shelf) c.in_ok-inputs.inputs
    c.from_residual-in_err-more.result c.in_err-more.field-0.0 c.from_residual-in_err-more.ensures.1
    c.in_err-more.ensures.answers_stay c.in_ok-inputs.ensures.reads_by_the_files c.in_ok-inputs.ensures.asks_in_order
    c.in_err-more.ensures.asks_for_it

pub returns-clause-asks_in_order : goal.returns-clause-asks_in_order
returns-clause-asks_in_order g c =
    order_quiet g.S.Shelf.asks (g.S.Shelf.agrees c.read_dropin.new.shelf)
    (λ files. asks_with_file files c.args.unit.now c.args.path.now) c.args.shelf.now c.read_dropin.new.shelf c.answer.result
    c.answer.ensures.reads_nothing
    (with_file g.S.Shelf.asks (g.S.Shelf.agrees c.read_dropin.new.shelf) c.args.unit.now c.args.path.now c.args.shelf.now c.read_inputs.new.shelf
    c.read_dropin.new.shelf (g.S.Shelf.agrees c.read_inputs.new.shelf) c.in_ok-inputs.inputs Whole
    c.in_ok-more.ensures.answers_stay c.in_ok-inputs.ensures.reads_by_the_files c.in_ok-inputs.ensures.asks_in_order
    c.in_ok-more.ensures.asks_for_it)
