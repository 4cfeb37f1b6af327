use Rattle.std.proofs.Common.{rules}
use Rattle.std.proofs.lemmas.List.Sorted.{answers_always, ranks_by}
use Rattle.score_command.specs.declared.fleet_command.fleet_report.rows.FleetRow.{FleetRow}
use Rattle.score_command.proofs.Ordered.{in_order, rows_total}
use Rattle.score_command.proofs.fleet_command.fleet_report.ordering.put_in_order.Goals as goal

pub returns-clause-in_order : goal.returns-clause-in_order
returns-clause-in_order c =
    in_order c.sort_unstable_by.new.self
    (c.sort_unstable_by.ensures.sorted _ (ranks_by rows_total (λ (row : FleetRow). row))
    (answers_always _ _ _ (λ f a r g h. search rules)))
