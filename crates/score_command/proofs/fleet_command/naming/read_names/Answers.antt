use Rattle.std.proofs.Common.{Err, Global, Ok, Vec, rules}
use Rattle.unit_inputs.proofs.Asking.{told_line}
use Rattle.score_command.specs.fleet_command.fleet_names.Asking.{names_asks}
use Rattle.score_command.specs.declared.fleet_command.fleet_names.errors.NamesError.TheVariants as naming
use Rattle.unit_inputs.proofs.Ordering.{order_quiet}
use Rattle.unit_inputs.specs.unit_names.Names.{Name}
use Rattle.score_command.proofs.Asked.{named_so}
use Rattle.score_command.proofs.fleet_command.naming.read_names.Goals as goal

pub returns-in-Ok-clause-asks_in_order : goal.returns-in-Ok-clause-asks_in_order
returns-in-Ok-clause-asks_in_order g c =
    named_so g.S.Shelf.asks (g.S.Shelf.agrees c.fleet_names.new.shelf) c.args.shelf.now c.fleet_names.new.shelf c.fleet_names.result
    (Ok c.in-Ok.names) (search rules) c.fleet_names.ensures.asks_in_order

pub returns-in-Err-TooMany-clause-asks_in_order : goal.returns-in-Err-TooMany-clause-asks_in_order
returns-in-Err-TooMany-clause-asks_in_order g c =
    order_quiet g.S.Shelf.asks (g.S.Shelf.agrees c.fleet_names.new.shelf) names_asks c.args.shelf.now c.fleet_names.new.shelf {T = Vec Name Global}
    (Err c.refuse.result)
    (told_line c.refused_line.result c.refuse.result c.refuse.ensures.tells_the_line)
    (named_so g.S.Shelf.asks (g.S.Shelf.agrees c.fleet_names.new.shelf) c.args.shelf.now c.fleet_names.new.shelf c.fleet_names.result
    (Err naming.TooMany) (search rules) c.fleet_names.ensures.asks_in_order)

pub returns-in-Err-ReadFault-clause-asks_in_order : goal.returns-in-Err-ReadFault-clause-asks_in_order
returns-in-Err-ReadFault-clause-asks_in_order g c =
    named_so g.S.Shelf.asks (g.S.Shelf.agrees c.fleet_names.new.shelf) c.args.shelf.now c.fleet_names.new.shelf c.fleet_names.result
    (Err naming.ReadFault) (search rules) c.fleet_names.ensures.asks_in_order

pub returns-in-Err-Memory-clause-asks_in_order : goal.returns-in-Err-Memory-clause-asks_in_order
returns-in-Err-Memory-clause-asks_in_order g c =
    named_so g.S.Shelf.asks (g.S.Shelf.agrees c.fleet_names.new.shelf) c.args.shelf.now c.fleet_names.new.shelf c.fleet_names.result
    (Err naming.Memory) (search rules) c.fleet_names.ensures.asks_in_order
