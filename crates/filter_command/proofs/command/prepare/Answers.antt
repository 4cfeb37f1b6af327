use Rattle.std.proofs.Common.{ap, ◌∙◌}
use Rattle.unit_inputs.specs.command_answers.Laws.{IsAdmitted, laws_over}
use Rattle.unit_inputs.proofs.FileCommands.{at_stop, stop_is_admitted}
use Rattle.unit_inputs.proofs.Reading.{read_then}
use Rattle.unit_inputs.specs.declared.settling.SettledUnit.{SettledUnit}
use Rattle.filter_command.specs.Prints.{status_of, filter_laws, filters_text}
use Rattle.filter_command.proofs.Prepared.{prepared}
use Rattle.unit_inputs.specs.Asking.{input_asks}
use Rattle.unit_inputs.proofs.Ordering.{order_quiet}
use Rattle.filter_command.proofs.command.prepare.Goals as goal

pub returns-in_err-one-clause-prepares : goal.returns-in_err-one-clause-prepares
returns-in_err-one-clause-prepares g c =
    at_stop (IsAdmitted (laws_over (g.S.Shelf.agrees c.settle_unit.new.shelf) (filter_laws c.args.unit.now)) status_of filters_text)
    c.from_residual.result c.in_err-one.field-0.0 c.from_residual.ensures.1
    (stop_is_admitted (filter_laws c.args.unit.now) status_of filters_text {T = SettledUnit} (λ one. Unit {0})
    (g.S.Shelf.agrees c.settle_unit.new.shelf) c.in_err-one.field-0.0 c.in_err-one.ensures.settles_by_the_files)

pub returns-clause-prepares : goal.returns-clause-prepares
returns-clause-prepares g c =
    prepared (g.S.Shelf.agrees c.settle_unit.new.shelf) c.args.unit.now c.in_ok-one.one c.as_slice.result.now c.compiled.result
    (c.as_slice.ensures.value ∙ ap (λ settings. settings.filters.items) c.deref.ensures)
    c.in_ok-one.ensures.settles_by_the_files c.in_ok-one.ensures.has_settings c.compiled.ensures.compiles c.compiled.ensures.refuses_nothing

pub returns-clause-reads_for_the_unit : goal.returns-clause-reads_for_the_unit
returns-clause-reads_for_the_unit g c = read_then g.S.Shelf.agrees g.S.Shelf.faults c.args.unit.now _ _ c.in_ok-one.one
    c.in_ok-one.ensures.reads_for_the_unit c.compiled.result c.compiled.ensures.reads_nothing

pub returns-clause-asks_in_order : goal.returns-clause-asks_in_order
returns-clause-asks_in_order g c =
    order_quiet g.S.Shelf.asks (g.S.Shelf.agrees c.settle_unit.new.shelf)
    (λ files. input_asks files c.args.unit.now) c.args.shelf.now c.settle_unit.new.shelf c.compiled.result
    c.compiled.ensures.reads_nothing c.in_ok-one.ensures.asks_in_order
