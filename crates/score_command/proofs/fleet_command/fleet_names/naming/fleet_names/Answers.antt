use Rattle.std.proofs.Common.{arith}
use Rattle.std.proofs.lemmas.Result.{err_from_is_err_and}
use Rattle.unit_inputs.proofs.OfHostIo.Calling.{agreed_cut}
use Rattle.score_command.specs.fleet_command.fleet_names.Asking.{names_asks}
use Rattle.score_command.proofs.Named.{names_units, refuses_many}
use Rattle.score_command.proofs.fleet_command.fleet_names.naming.fleet_names.Goals as goal

pub returns-then-len-gt-MOST_UNITS-clause-names_the_units : goal.returns-then-len-gt-MOST_UNITS-clause-names_the_units
returns-then-len-gt-MOST_UNITS-clause-names_the_units g c =
    refuses_many (g.S.Shelf.agrees c.collect_all.new.shelf) c.in_ok-units.units c.len.ensures.ordered c.in_ok-units.ensures.collects_the_units
    (omega (arith, c.if-len-gt-MOST_UNITS.true, c.len.ensures.len))

pub returns-clause-names_the_units : goal.returns-clause-names_the_units
returns-clause-names_the_units g c =
    names_units (g.S.Shelf.agrees c.collect_all.new.shelf) c.in_ok-units.units c.in_ok-in_byte_order.field-0 c.len.ensures.ordered
    c.in_ok-units.ensures.collects_the_units
    (omega (arith, c.if-len-gt-MOST_UNITS.false, c.len.ensures.len)) c.in_ok-in_byte_order.ensures.by_their_names

pub returns-in_err-in_byte_order-clause-asks_in_order : goal.returns-in_err-in_byte_order-clause-asks_in_order
returns-in_err-in_byte_order-clause-asks_in_order g c =
    let p = err_from_is_err_and c.from_residual-in_err-in_byte_order.result c.from_residual-in_err-in_byte_order.ensures.1 in
    rw (p.1, p.2)
    (agreed_cut g.S.Shelf.asks (g.S.Shelf.agrees c.collect_all.new.shelf) c.args.shelf.now _ names_asks c.in_ok-units.ensures.asks_in_order)
