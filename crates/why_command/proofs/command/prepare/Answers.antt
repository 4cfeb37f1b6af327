use Rattle.std.proofs.Common.{map, sym, ◌≡◌, ◌∙◌, Some}
use Rattle.std.specs.Prelude.{IsErrOf}
use Rattle.asked_service.specs.unit_inputs.declared.command_answers.error.CommandError.TheVariants.{ReadFault}
use Rattle.asked_service.specs.unit_inputs.command_answers.Laws.{IsAdmitted, laws_over}
use Rattle.asked_service.proofs.OfUnitInputs.FileCommands.{at_stop}
use Rattle.asked_service.specs.kernel_laws.declared.question_types.question.Question.{Question}
use Rattle.asked_service.specs.launching.Starting.{given}
use Rattle.asked_service.specs.unit_inputs.Asking.{input_asks}
use Rattle.asked_service.specs.unit_inputs.Inputs.{inputs_of, inputs_view}
use Rattle.asked_service.proofs.OfUnitInputs.Ordering.{order_quiet, order_quiet_stopped}
use Rattle.asked_service.proofs.Given.{same_inputs}
use Rattle.asked_service.proofs.OfUnitInputs.Reading.{read_then}
use Rattle.asked_service.specs.unit_inputs.command_answers.ReadyTexts.{status_of, text_of}
use Rattle.why_command.specs.Prints.{why_laws}
use Rattle.why_command.proofs.Prepared.{admitted_as, as_any, listed_as, stops_at_inputs, stops_at_question}
use Rattle.why_command.proofs.command.prepare.Goals as goal

pub returns-in_err-inputs-clause-prepares : goal.returns-in_err-inputs-clause-prepares
returns-in_err-inputs-clause-prepares g c =
    at_stop (IsAdmitted (laws_over (g.S.Shelf.agrees c.read_inputs.new.shelf) (why_laws c.args.unit.now (map (λ word. word.now) c.args.words.now)))
    status_of text_of) c.from_residual.result c.in_err-inputs.field-0.0 c.from_residual.ensures.1
    (stops_at_inputs (λ files inputs. inputs_of files c.args.unit.now ≡ Some (inputs_view inputs))
    (g.S.Shelf.agrees c.read_inputs.new.shelf) c.args.unit.now (map (λ word. word.now) c.args.words.now) c.in_err-inputs.field-0.0
    c.in_err-inputs.ensures.reads_by_the_files)

pub returns-in_err-question-clause-prepares : goal.returns-in_err-question-clause-prepares
returns-in_err-question-clause-prepares g c =
    at_stop (IsAdmitted (laws_over (g.S.Shelf.agrees c.read_inputs.new.shelf) (why_laws c.args.unit.now (map (λ word. word.now) c.args.words.now)))
    status_of text_of) c.from_residual-in_err-question.result c.in_err-question.field-0.0 c.from_residual-in_err-question.ensures.1
    (stops_at_question (g.S.Shelf.agrees c.read_inputs.new.shelf) c.args.unit.now
    (map (λ word. word.now) c.args.words.now) c.in_ok-inputs.inputs c.in_ok-inputs.ensures.reads_by_the_files c.deref.result.now
    c.deref-2.result.now c.in_err-question.field-0.0 c.deref.ensures c.deref-2.ensures c.in_err-question.ensures.asks)

pub returns-in_err-question-clause-reads_for_the_unit : goal.returns-in_err-question-clause-reads_for_the_unit
returns-in_err-question-clause-reads_for_the_unit g c =
    read_then g.S.Shelf.agrees g.S.Shelf.faults c.args.unit.now _ _ c.in_ok-inputs.inputs c.in_ok-inputs.ensures.reads_for_the_unit
    c.from_residual-in_err-question.result
    (at_stop (λ result. IsErrOf result ReadFault → ⊥) c.from_residual-in_err-question.result c.in_err-question.field-0.0
    c.from_residual-in_err-question.ensures.1 (as_any c.in_err-question.field-0.0 c.in_err-question.ensures.reads_nothing))

pub answer-requires : goal.answer-requires
answer-requires g c = record {
  can_be_tried =
      listed_as c.deref.result.now c.deref-4.result.now c.deref-2.result.now c.deref-5.result.now
      (c.deref.ensures ∙ sym c.deref-4.ensures) (c.deref-2.ensures ∙ sym c.deref-5.ensures)
      (c.in_ok-question.question) c.in_ok-question.ensures.listed;
}

pub returns-clause-prepares : goal.returns-clause-prepares
returns-clause-prepares g c =
    admitted_as (g.S.Shelf.agrees c.read_inputs.new.shelf) c.args.unit.now
    (map (λ word. word.now) c.args.words.now) c.in_ok-inputs.inputs c.in_ok-inputs.ensures.reads_by_the_files c.deref.result.now
    c.deref-2.result.now (c.in_ok-question.question) c.deref.ensures c.deref-2.ensures
    c.in_ok-question.ensures.asks (given c.deref-3.result.now c.deref-4.result.now c.deref-5.result.now)
    (same_inputs (inputs_view c.in_ok-inputs.inputs) c.deref-3.result.now c.deref-4.result.now c.deref-5.result.now c.deref-3.ensures
    c.deref-4.ensures c.deref-5.ensures)
    c.answer.result c.answer.ensures.answers

pub returns-clause-reads_for_the_unit : goal.returns-clause-reads_for_the_unit
returns-clause-reads_for_the_unit g c =
    read_then g.S.Shelf.agrees g.S.Shelf.faults c.args.unit.now _ _ c.in_ok-inputs.inputs c.in_ok-inputs.ensures.reads_for_the_unit
    c.answer.result c.answer.ensures.reads_nothing

pub returns-in_err-question-clause-asks_in_order : goal.returns-in_err-question-clause-asks_in_order
returns-in_err-question-clause-asks_in_order g c =
    order_quiet_stopped g.S.Shelf.asks (g.S.Shelf.agrees c.read_inputs.new.shelf)
    (λ files. input_asks files c.args.unit.now) c.args.shelf.now c.read_inputs.new.shelf Question
    c.from_residual-in_err-question.result c.in_err-question.field-0.0 c.from_residual-in_err-question.ensures.1
    c.in_err-question.ensures.reads_nothing c.in_ok-inputs.ensures.asks_in_order

pub returns-clause-asks_in_order : goal.returns-clause-asks_in_order
returns-clause-asks_in_order g c =
    order_quiet g.S.Shelf.asks (g.S.Shelf.agrees c.read_inputs.new.shelf)
    (λ files. input_asks files c.args.unit.now) c.args.shelf.now c.read_inputs.new.shelf c.answer.result
    c.answer.ensures.reads_nothing c.in_ok-inputs.ensures.asks_in_order
