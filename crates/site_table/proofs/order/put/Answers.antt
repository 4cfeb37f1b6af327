use Rattle.site_table.proofs.Finding.{ordered_more}
use Rattle.site_table.proofs.order.put.Goals as goal

pub insert-requires-clause-goes_on : goal.insert-requires-clause-goes_on
insert-requires-clause-goes_on c = ordered_more c.args.ordered.now c.args.row c.args.at c.requires
