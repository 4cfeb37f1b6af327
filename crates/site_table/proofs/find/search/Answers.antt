use Rattle.std.proofs.Common.{List, ℕ, ◌++◌, subst}
use Rattle.site_table.specs.Order.{Searches}
use Rattle.site_table.proofs.find.search.Goals as goal

pub returns-clause-searches : goal.returns-clause-searches
returns-clause-searches c =
    subst (λ (text : List ℕ). Searches c.args.rows.now (text ++ c.args.rest.now) c.search_text.result) c.tail.ensures.tail
    c.search_text.ensures.searches
