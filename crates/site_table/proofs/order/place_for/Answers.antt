use Rattle.std.proofs.Common.{List, [], ◌++◌, subst}
use Rattle.abs_path.specs.Paths.{tail_of}
use Rattle.site_table.specs.declared.row.Row.{Row}
use Rattle.site_table.specs.Order.{Searches}
use Rattle.site_table.proofs.Finding.{place_searched}
use Rattle.site_table.proofs.order.place_for.Goals as goal

pub returns : goal.returns
returns c = record {
  where_it_goes =
      rw c.err.ensures.value
      (place_searched c.args.ordered.now c.args.path.now c.search.result c.list.ensures.as_held c.search.ensures.normal
      (subst (λ (rows : List Row). Searches rows (tail_of c.args.path.now ++ []) c.search.result) c.list.ensures.all_in_order
      c.search.ensures.searches));
}
