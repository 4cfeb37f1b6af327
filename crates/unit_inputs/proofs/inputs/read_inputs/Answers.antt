use Rattle.exec_settings.specs.call_table.Table.{Table}
use Rattle.exec_settings.specs.dropin_merge.declared.resolved.Resolved.{Resolved}
use Rattle.exec_settings.specs.host_io.Calls.{Whole}
use Rattle.exec_settings.specs.site_table.Table.{Site}
use Rattle.std.proofs.Common.{Box, Global}
use Rattle.unit_inputs.proofs.Ordering.{behind_table, behind_unit, order_stopped, stops_at_table, stops_at_unit}
use Rattle.unit_inputs.specs.Asking.{input_asks}
use Rattle.unit_inputs.proofs.inputs.read_inputs.Goals as goal

pub returns-in_err-unit-clause-asks_in_order : goal.returns-in_err-unit-clause-asks_in_order
returns-in_err-unit-clause-asks_in_order g c =
    order_stopped g.S.Shelf.asks (g.S.Shelf.agrees c.read_unit.new.shelf)
    (λ files. input_asks files c.args.unit.now) c.args.shelf.now c.read_unit.new.shelf
    (Box Resolved Global) c.from_residual.result c.in_err-unit.field-0.0 c.from_residual.ensures.1
    (stops_at_unit g.S.Shelf.asks (g.S.Shelf.agrees c.read_unit.new.shelf) c.args.unit.now c.args.shelf.now c.read_unit.new.shelf
    c.in_err-unit.field-0.0 c.in_err-unit.ensures.resolves_by_the_files c.in_err-unit.ensures.asks_in_order)

pub returns-in_err-calls-clause-asks_in_order : goal.returns-in_err-calls-clause-asks_in_order
returns-in_err-calls-clause-asks_in_order g c =
    order_stopped g.S.Shelf.asks (g.S.Shelf.agrees c.read_table.new.shelf)
    (λ files. input_asks files c.args.unit.now) c.args.shelf.now c.read_table.new.shelf
    (Box Table Global) c.from_residual-in_err-calls.result c.in_err-calls.field-0.0 c.from_residual-in_err-calls.ensures.1
    (behind_unit g.S.Shelf.asks (g.S.Shelf.agrees c.read_table.new.shelf) c.args.unit.now c.args.shelf.now c.read_unit.new.shelf
    c.read_table.new.shelf (g.S.Shelf.agrees c.read_unit.new.shelf) c.in_ok-unit.unit _
    c.in_err-calls.ensures.answers_stay c.in_ok-unit.ensures.resolves_by_the_files c.in_ok-unit.ensures.asks_in_order
    (stops_at_table g.S.Shelf.asks (g.S.Shelf.agrees c.read_table.new.shelf) c.args.unit.now c.read_unit.new.shelf c.read_table.new.shelf
    c.in_err-calls.field-0.0 c.in_err-calls.ensures.reads_the_table c.in_err-calls.ensures.asks_for_it))

pub returns-in_err-site-clause-asks_in_order : goal.returns-in_err-site-clause-asks_in_order
returns-in_err-site-clause-asks_in_order g c =
    order_stopped g.S.Shelf.asks (g.S.Shelf.agrees c.read_site.new.shelf)
    (λ files. input_asks files c.args.unit.now) c.args.shelf.now c.read_site.new.shelf
    (Box Site Global) c.from_residual-in_err-site.result c.in_err-site.field-0.0 c.from_residual-in_err-site.ensures.1
    (behind_unit g.S.Shelf.asks (g.S.Shelf.agrees c.read_site.new.shelf) c.args.unit.now c.args.shelf.now c.read_unit.new.shelf
    c.read_site.new.shelf (g.S.Shelf.agrees c.read_unit.new.shelf) c.in_ok-unit.unit _ (λ files agree. c.in_ok-calls.ensures.answers_stay files (c.in_err-site.ensures.answers_stay files agree))
    c.in_ok-unit.ensures.resolves_by_the_files c.in_ok-unit.ensures.asks_in_order
    (behind_table g.S.Shelf.asks (g.S.Shelf.agrees c.read_site.new.shelf) c.args.unit.now c.read_unit.new.shelf c.read_table.new.shelf
    c.read_site.new.shelf (g.S.Shelf.agrees c.read_table.new.shelf) c.in_ok-calls.calls _ c.in_err-site.ensures.answers_stay
    c.in_ok-calls.ensures.reads_the_table c.in_ok-calls.ensures.asks_for_it c.in_err-site.ensures.asks_for_it))

pub returns-clause-asks_in_order : goal.returns-clause-asks_in_order
returns-clause-asks_in_order g c =
    behind_unit g.S.Shelf.asks (g.S.Shelf.agrees c.read_site.new.shelf) c.args.unit.now c.args.shelf.now c.read_unit.new.shelf
    c.read_site.new.shelf (g.S.Shelf.agrees c.read_unit.new.shelf) c.in_ok-unit.unit Whole
    (λ files agree. c.in_ok-calls.ensures.answers_stay files (c.in_ok-site.ensures.answers_stay files agree)) c.in_ok-unit.ensures.resolves_by_the_files c.in_ok-unit.ensures.asks_in_order
    (behind_table g.S.Shelf.asks (g.S.Shelf.agrees c.read_site.new.shelf) c.args.unit.now c.read_unit.new.shelf c.read_table.new.shelf
    c.read_site.new.shelf (g.S.Shelf.agrees c.read_table.new.shelf) c.in_ok-calls.calls Whole c.in_ok-site.ensures.answers_stay
    c.in_ok-calls.ensures.reads_the_table c.in_ok-calls.ensures.asks_for_it c.in_ok-site.ensures.asks_for_it)
