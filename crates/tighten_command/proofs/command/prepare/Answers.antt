use Rattle.std.proofs.Common.{◌≡◌, ◌∙◌, Some, sym}
use Rattle.std.specs.Prelude.{List}
use Rattle.asked_service.specs.host_io.Calls.{Whole}
use Rattle.asked_service.specs.unit_inputs.command_answers.Laws.{IsAdmitted}
use Rattle.asked_service.proofs.OfUnitInputs.FileCommands.{at_stop}
use Rattle.asked_service.specs.kernel_laws.declared.question_types.question.Question.{Question}
use Rattle.tighten_command.specs.tightening.Wishes.{wishes_by}
use Rattle.asked_service.specs.unit_names.Cutting.{name_of}
use Rattle.asked_service.specs.unit_inputs.Asking.{asks_with_file}
use Rattle.asked_service.specs.unit_inputs.Inputs.{inputs_of, inputs_view}
use Rattle.asked_service.proofs.OfUnitInputs.Ordering.{order_quiet, stops_at_file, stops_before_file, with_file}
use Rattle.asked_service.proofs.OfUnitInputs.Reading.{named, read_behind}
use Rattle.asked_service.specs.unit_inputs.command_answers.ReadyTexts.{status_of, text_of}
use Rattle.tighten_command.specs.Prints.{tighten_laws}
use Rattle.tighten_command.proofs.Prepared.{answered_as, lent_listed, stops_at_inputs, stops_at_keep}
use Rattle.tighten_command.proofs.command.prepare.Goals as goal

pub returns-in_err-inputs-clause-prepares : goal.returns-in_err-inputs-clause-prepares
returns-in_err-inputs-clause-prepares g c =
    let wishes = wishes_by (λ wish. wish.must_open) (λ wish shown answer. (goal.Fn-dyn g).post (wish.test.vtable, wish.test.value) (shown, tt) answer) c.args.wishes.now in
    at_stop (IsAdmitted (tighten_laws (g.S.Shelf.agrees c.read_inputs.new.shelf) c.args.unit.now c.args.path.now wishes) status_of text_of)
    c.from_residual.result c.in_err-inputs.field-0.0 c.from_residual.ensures.1
    (stops_at_inputs c.args.unit.now c.args.path.now wishes (λ files inputs. inputs_of files c.args.unit.now ≡ Some (inputs_view inputs))
    (g.S.Shelf.agrees c.read_inputs.new.shelf) c.in_err-inputs.field-0.0 c.in_err-inputs.ensures.reads_by_the_files)

pub returns-in_err-keep-clause-prepares : goal.returns-in_err-keep-clause-prepares
returns-in_err-keep-clause-prepares g c =
    let wishes = wishes_by (λ wish. wish.must_open) (λ wish shown answer. (goal.Fn-dyn g).post (wish.test.vtable, wish.test.value) (shown, tt) answer) c.args.wishes.now in
    at_stop (IsAdmitted (tighten_laws (g.S.Shelf.agrees c.read_keep.new.shelf) c.args.unit.now c.args.path.now wishes) status_of text_of)
    c.from_residual-in_err-keep.result c.in_err-keep.field-0.0 c.from_residual-in_err-keep.ensures.1
    (stops_at_keep c.args.unit.now c.args.path.now wishes (λ (keep : List Question). keep) (g.S.Shelf.agrees c.read_inputs.new.shelf)
    (g.S.Shelf.agrees c.read_keep.new.shelf) c.in_ok-inputs.inputs c.deref.result.now c.deref-2.result.now c.in_err-keep.field-0.0
    c.in_err-keep.ensures.answers_stay c.deref.ensures c.deref-2.ensures c.in_ok-inputs.ensures.reads_by_the_files
    c.in_err-keep.ensures.reads_what_is_kept)

pub returns-clause-prepares : goal.returns-clause-prepares
returns-clause-prepares g c =
    let wishes = wishes_by (λ wish. wish.must_open) (λ wish shown answer. (goal.Fn-dyn g).post (wish.test.vtable, wish.test.value) (shown, tt) answer) c.args.wishes.now in
    answered_as c.args.unit.now c.args.path.now wishes (λ (keep : List Question). keep) (g.S.Shelf.agrees c.read_inputs.new.shelf)
    (g.S.Shelf.agrees c.read_keep.new.shelf) c.in_ok-inputs.inputs c.deref.result.now c.deref-2.result.now c.in_ok-keep.keep
    c.in_ok-keep.ensures.answers_stay c.deref.ensures c.deref-2.ensures c.in_ok-inputs.ensures.reads_by_the_files
    c.in_ok-keep.ensures.reads_what_is_kept
    c.deref-3.result.now c.deref-4.result.now c.deref-5.result.now c.list.result.now c.answer.result c.deref-3.ensures c.deref-4.ensures
    c.deref-5.ensures c.list.ensures.all_in_order c.answer.ensures.answers

pub returns-clause-reads_for_the_unit : goal.returns-clause-reads_for_the_unit
returns-clause-reads_for_the_unit g c =
    read_behind g.S.Shelf.agrees g.S.Shelf.faults c.args.unit.now _ _ _ c.in_ok-inputs.inputs c.in_ok-keep.keep
    c.in_ok-inputs.ensures.reads_for_the_unit
    (named (name_of c.args.unit.now) c.in_ok-inputs.inputs.unit.value.name c.in_ok-inputs.ensures.names_the_unit)
    c.in_ok-keep.ensures.answers_stay c.in_ok-keep.ensures.fault_rose c.answer.result c.answer.ensures.reads_nothing

pub answer-requires : goal.answer-requires
answer-requires g c = record {
  listed =
      lent_listed c.deref.result.now c.deref-4.result.now c.deref-2.result.now c.deref-5.result.now c.in_ok-keep.keep c.list.result.now
      (c.deref.ensures ∙ sym c.deref-4.ensures) (c.deref-2.ensures ∙ sym c.deref-5.ensures) c.list.ensures.all_in_order
      c.in_ok-keep.ensures.listed;
}

pub returns-in_err-inputs-clause-asks_in_order : goal.returns-in_err-inputs-clause-asks_in_order
returns-in_err-inputs-clause-asks_in_order g c =
    stops_before_file g.S.Shelf.asks (g.S.Shelf.agrees c.read_inputs.new.shelf) c.args.unit.now c.args.path.now c.args.shelf.now _
    c.from_residual.result c.in_err-inputs.field-0.0 c.from_residual.ensures.1
    c.in_err-inputs.ensures.reads_by_the_files c.in_err-inputs.ensures.asks_in_order

pub returns-in_err-keep-clause-asks_in_order : goal.returns-in_err-keep-clause-asks_in_order
returns-in_err-keep-clause-asks_in_order g c =
    stops_at_file g.S.Shelf.asks (g.S.Shelf.agrees c.read_keep.new.shelf) c.args.unit.now c.args.path.now c.args.shelf.now
    c.read_inputs.new.shelf (List Question) c.read_keep.new.shelf (g.S.Shelf.agrees c.read_inputs.new.shelf) c.in_ok-inputs.inputs
    c.from_residual-in_err-keep.result c.in_err-keep.field-0.0 c.from_residual-in_err-keep.ensures.1
    c.in_err-keep.ensures.answers_stay c.in_ok-inputs.ensures.reads_by_the_files c.in_ok-inputs.ensures.asks_in_order
    c.in_err-keep.ensures.asks_for_it

pub returns-clause-asks_in_order : goal.returns-clause-asks_in_order
returns-clause-asks_in_order g c =
    order_quiet g.S.Shelf.asks (g.S.Shelf.agrees c.read_keep.new.shelf)
    (λ files. asks_with_file files c.args.unit.now c.args.path.now) c.args.shelf.now c.read_keep.new.shelf c.answer.result
    c.answer.ensures.reads_nothing
    (with_file g.S.Shelf.asks (g.S.Shelf.agrees c.read_keep.new.shelf) c.args.unit.now c.args.path.now c.args.shelf.now c.read_inputs.new.shelf
    c.read_keep.new.shelf (g.S.Shelf.agrees c.read_inputs.new.shelf) c.in_ok-inputs.inputs Whole
    c.in_ok-keep.ensures.answers_stay c.in_ok-inputs.ensures.reads_by_the_files c.in_ok-inputs.ensures.asks_in_order
    c.in_ok-keep.ensures.asks_for_it)
