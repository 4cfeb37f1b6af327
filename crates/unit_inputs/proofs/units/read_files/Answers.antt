use Rattle.exec_settings.specs.dropin_merge.Asking.{resolve_asks}
use Rattle.unit_inputs.proofs.Ordering.{order_quiet}
use Rattle.unit_inputs.proofs.units.read_files.Goals as goal

pub returns-in-Ok-clause-asks_in_order : goal.returns-in-Ok-clause-asks_in_order
returns-in-Ok-clause-asks_in_order g c =
    order_quiet g.S.Shelf.asks (g.S.Shelf.agrees c.resolve.new.shelf)
    (λ files. resolve_asks files c.args.unit.now) c.args.shelf.now c.resolve.new.shelf c.boxed.result c.boxed.ensures.reads_nothing
    (record { by_the_files = c.in-Ok.ensures.asks_in_order })
