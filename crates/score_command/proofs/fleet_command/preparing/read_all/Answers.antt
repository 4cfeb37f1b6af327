use Rattle.report_text.specs.call_table.Table.{Table}
use Rattle.score_command.proofs.Asked.{behind_the_names, behind_the_site, behind_the_table, stops_at_names, stops_at_site, stops_at_table}
use Rattle.score_command.specs.fleet_command.Asking.{read_asks}
use Rattle.unit_inputs.specs.host_io.Calls.{Whole}
use Rattle.report_text.specs.exposure_score.declared.policy_file.policy.PolicyTest.{PolicyTest}
use Rattle.report_text.specs.site_table.Table.{Site}
use Rattle.std.proofs.Common.{Box, Global, List, Vec}
use Rattle.unit_inputs.proofs.Ordering.{order_stopped}
use Rattle.unit_inputs.specs.unit_names.Names.{Name}
use Rattle.score_command.proofs.fleet_command.preparing.read_all.Goals as goal

pub returns-in_err-names-clause-asks_in_order : goal.returns-in_err-names-clause-asks_in_order
returns-in_err-names-clause-asks_in_order g c =
    order_stopped g.S.Shelf.asks (g.S.Shelf.agrees c.read_names.new.shelf)
    (λ files. read_asks files c.args.path.now) c.args.shelf.now c.read_names.new.shelf
    (Vec Name Global) c.from_residual.result c.in_err-names.field-0.0 c.from_residual.ensures.1
    (stops_at_names g.S.Shelf.asks (g.S.Shelf.agrees c.read_names.new.shelf) c.args.path.now c.args.shelf.now c.read_names.new.shelf
    c.in_err-names.field-0.0 c.in_err-names.ensures.reads_the_names c.in_err-names.ensures.asks_in_order)

pub returns-in_err-calls-clause-asks_in_order : goal.returns-in_err-calls-clause-asks_in_order
returns-in_err-calls-clause-asks_in_order g c =
    order_stopped g.S.Shelf.asks (g.S.Shelf.agrees c.read_table.new.shelf)
    (λ files. read_asks files c.args.path.now) c.args.shelf.now c.read_table.new.shelf
    (Box Table Global) c.from_residual-in_err-calls.result c.in_err-calls.field-0.0 c.from_residual-in_err-calls.ensures.1
    (behind_the_names g.S.Shelf.asks (g.S.Shelf.agrees c.read_table.new.shelf) c.args.path.now c.args.shelf.now c.read_names.new.shelf
    c.read_table.new.shelf (g.S.Shelf.agrees c.read_names.new.shelf) c.in_ok-names.names _ c.in_err-calls.ensures.answers_stay
    c.in_ok-names.ensures.reads_the_names c.in_ok-names.ensures.asks_in_order
    (stops_at_table g.S.Shelf.asks (g.S.Shelf.agrees c.read_table.new.shelf) c.args.path.now c.read_names.new.shelf c.read_table.new.shelf
    c.in_err-calls.field-0.0 c.in_err-calls.ensures.reads_the_table c.in_err-calls.ensures.asks_for_it))

pub returns-in_err-site-clause-asks_in_order : goal.returns-in_err-site-clause-asks_in_order
returns-in_err-site-clause-asks_in_order g c =
    order_stopped g.S.Shelf.asks (g.S.Shelf.agrees c.read_site.new.shelf)
    (λ files. read_asks files c.args.path.now) c.args.shelf.now c.read_site.new.shelf
    (Box Site Global) c.from_residual-in_err-site.result c.in_err-site.field-0.0 c.from_residual-in_err-site.ensures.1
    (behind_the_names g.S.Shelf.asks (g.S.Shelf.agrees c.read_site.new.shelf) c.args.path.now c.args.shelf.now c.read_names.new.shelf
    c.read_site.new.shelf (g.S.Shelf.agrees c.read_names.new.shelf) c.in_ok-names.names _ (λ files agree. c.in_ok-calls.ensures.answers_stay files (c.in_err-site.ensures.answers_stay files agree))
    c.in_ok-names.ensures.reads_the_names c.in_ok-names.ensures.asks_in_order
    (behind_the_table g.S.Shelf.asks (g.S.Shelf.agrees c.read_site.new.shelf) c.args.path.now c.read_names.new.shelf c.read_table.new.shelf
    c.read_site.new.shelf (g.S.Shelf.agrees c.read_table.new.shelf) c.in_ok-calls.calls _ c.in_err-site.ensures.answers_stay
    c.in_ok-calls.ensures.reads_the_table c.in_ok-calls.ensures.asks_for_it
    (stops_at_site g.S.Shelf.asks (g.S.Shelf.agrees c.read_site.new.shelf) c.args.path.now c.read_table.new.shelf c.read_site.new.shelf
    c.in_err-site.field-0.0 c.in_err-site.ensures.reads_the_site c.in_err-site.ensures.asks_for_it)))

pub returns-in_err-policy-clause-asks_in_order : goal.returns-in_err-policy-clause-asks_in_order
returns-in_err-policy-clause-asks_in_order g c =
    order_stopped g.S.Shelf.asks (g.S.Shelf.agrees c.read_policy.new.shelf)
    (λ files. read_asks files c.args.path.now) c.args.shelf.now c.read_policy.new.shelf
    (List PolicyTest) c.from_residual-in_err-policy.result c.in_err-policy.field-0.0 c.from_residual-in_err-policy.ensures.1
    (behind_the_names g.S.Shelf.asks (g.S.Shelf.agrees c.read_policy.new.shelf) c.args.path.now c.args.shelf.now c.read_names.new.shelf
    c.read_policy.new.shelf (g.S.Shelf.agrees c.read_names.new.shelf) c.in_ok-names.names _ (λ files agree. c.in_ok-calls.ensures.answers_stay files (c.in_ok-site.ensures.answers_stay files (c.in_err-policy.ensures.answers_stay files agree)))
    c.in_ok-names.ensures.reads_the_names c.in_ok-names.ensures.asks_in_order
    (behind_the_table g.S.Shelf.asks (g.S.Shelf.agrees c.read_policy.new.shelf) c.args.path.now c.read_names.new.shelf c.read_table.new.shelf
    c.read_policy.new.shelf (g.S.Shelf.agrees c.read_table.new.shelf) c.in_ok-calls.calls _ (λ files agree. c.in_ok-site.ensures.answers_stay files (c.in_err-policy.ensures.answers_stay files agree))
    c.in_ok-calls.ensures.reads_the_table c.in_ok-calls.ensures.asks_for_it
    (behind_the_site g.S.Shelf.asks (g.S.Shelf.agrees c.read_policy.new.shelf) c.args.path.now c.read_table.new.shelf c.read_site.new.shelf
    c.read_policy.new.shelf (g.S.Shelf.agrees c.read_site.new.shelf) c.in_ok-site.site _ c.in_err-policy.ensures.answers_stay
    c.in_ok-site.ensures.reads_the_site c.in_ok-site.ensures.asks_for_it c.in_err-policy.ensures.asks_for_it)))

pub returns-clause-asks_in_order : goal.returns-clause-asks_in_order
returns-clause-asks_in_order g c =
    behind_the_names g.S.Shelf.asks (g.S.Shelf.agrees c.read_policy.new.shelf) c.args.path.now c.args.shelf.now c.read_names.new.shelf
    c.read_policy.new.shelf (g.S.Shelf.agrees c.read_names.new.shelf) c.in_ok-names.names Whole (λ files agree. c.in_ok-calls.ensures.answers_stay files (c.in_ok-site.ensures.answers_stay files (c.in_ok-policy.ensures.answers_stay files agree)))
    c.in_ok-names.ensures.reads_the_names c.in_ok-names.ensures.asks_in_order
    (behind_the_table g.S.Shelf.asks (g.S.Shelf.agrees c.read_policy.new.shelf) c.args.path.now c.read_names.new.shelf c.read_table.new.shelf
    c.read_policy.new.shelf (g.S.Shelf.agrees c.read_table.new.shelf) c.in_ok-calls.calls Whole (λ files agree. c.in_ok-site.ensures.answers_stay files (c.in_ok-policy.ensures.answers_stay files agree))
    c.in_ok-calls.ensures.reads_the_table c.in_ok-calls.ensures.asks_for_it
    (behind_the_site g.S.Shelf.asks (g.S.Shelf.agrees c.read_policy.new.shelf) c.args.path.now c.read_table.new.shelf c.read_site.new.shelf
    c.read_policy.new.shelf (g.S.Shelf.agrees c.read_site.new.shelf) c.in_ok-site.site Whole c.in_ok-policy.ensures.answers_stay
    c.in_ok-site.ensures.reads_the_site c.in_ok-site.ensures.asks_for_it c.in_ok-policy.ensures.asks_for_it))
