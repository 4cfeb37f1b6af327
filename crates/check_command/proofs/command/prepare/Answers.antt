use Rattle.unit_inputs.specs.command_answers.Laws.{IsAdmitted}
use Rattle.unit_inputs.proofs.FileCommands.{at_stop}
use Rattle.unit_inputs.proofs.Reading.{read_then}
use Rattle.check_command.specs.Checked.{checked_text, status_of}
use Rattle.check_command.specs.Prints.{check_laws}
use Rattle.check_command.proofs.Together.{compared_as, stops_before}
use Rattle.unit_inputs.specs.Asking.{asks_with_file}
use Rattle.unit_inputs.proofs.Ordering.{order_quiet}
use Rattle.check_command.proofs.command.prepare.Goals as goal

pub returns-in_err-prepared-clause-prepares : goal.returns-in_err-prepared-clause-prepares
returns-in_err-prepared-clause-prepares g c =
    at_stop (IsAdmitted (check_laws (g.S.Shelf.agrees c.read_all.new.shelf) c.args.unit.now c.args.name.now c.args.path.now) status_of
    checked_text) c.from_residual.result c.in_err-prepared.field-0.0 c.from_residual.ensures.1
    (stops_before c.args.unit.now c.args.name.now c.args.path.now
    (g.S.Shelf.agrees c.read_all.new.shelf) c.in_err-prepared.field-0.0 c.in_err-prepared.ensures.prepares)

pub returns-clause-prepares : goal.returns-clause-prepares
returns-clause-prepares g c =
    compared_as c.args.unit.now c.args.name.now c.args.path.now c.in_ok-prepared.prepared
    (g.S.Shelf.agrees c.read_all.new.shelf) c.compare.result c.in_ok-prepared.ensures.prepares c.compare.ensures.compares

pub returns-clause-reads_for_the_unit : goal.returns-clause-reads_for_the_unit
returns-clause-reads_for_the_unit g c =
    read_then g.S.Shelf.agrees g.S.Shelf.faults c.args.unit.now _ _ c.in_ok-prepared.prepared c.in_ok-prepared.ensures.reads_for_the_unit
    c.compare.result c.compare.ensures.reads_nothing

pub returns-clause-asks_in_order : goal.returns-clause-asks_in_order
returns-clause-asks_in_order g c =
    order_quiet g.S.Shelf.asks (g.S.Shelf.agrees c.read_all.new.shelf)
    (λ files. asks_with_file files c.args.unit.now c.args.path.now) c.args.shelf.now c.read_all.new.shelf c.compare.result
    c.compare.ensures.reads_nothing c.in_ok-prepared.ensures.asks_in_order
