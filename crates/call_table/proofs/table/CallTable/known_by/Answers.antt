use Rattle.std.proofs.Common.{sym, subst}
use Rattle.call_table.specs.Facts.{IsKept}
use Rattle.call_table.specs.Table.{Table}
use Rattle.call_table.specs.Views.{made}
use Rattle.call_table.proofs.ReadBy.{kept_by}
use Rattle.call_table.proofs.table.CallTable.known_by.Goals as goal

pub invariant_of-self : goal.invariant_of-self
invariant_of-self c =
    let order = c.self.inside.by_number.items in
    let second_order = c.self.inside.second_by_number.items in
    subst (λ (table : Table). IsKept table order second_order) (sym c.known_by.ensures.reads_each_call)
    (kept_by c.args.kernel (made c.self.inside.lists) order second_order c.self.invariant)
