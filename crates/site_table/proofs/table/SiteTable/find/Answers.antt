use Rattle.std.proofs.Common.{List, ◌++◌, ap, ◌∙◌, subst}
use Rattle.std.specs.List.{AllByRecursion}
use Rattle.abs_path.specs.Paths.{tail_of}
use Rattle.site_table.specs.declared.row.Row.{Row}
use Rattle.site_table.specs.Order.{Searches}
use Rattle.site_table.specs.Table.{Site, IsRowOf, place_of_text}
use Rattle.site_table.proofs.Finding.{text_place, joined_place, normal_rows}
use Rattle.site_table.proofs.table.SiteTable.find.Goals as goal

pub returns-clause-place_of_the_text : goal.returns-clause-place_of_the_text
returns-clause-place_of_the_text c =
    let text = tail_of c.args.front.now ++ c.args.rest.now in
    c.ok.ensures.value
    ∙ text_place c.self.inside.rows.items text c.search.result c.self.invariant.ascending
    (subst (λ (rows : List Row). Searches rows text c.search.result) c.deref.ensures.value c.search.ensures.searches)
    ∙ ap (λ (site : Site). place_of_text site.rows text) c.self.view_is

pub returns-clause-place_of_the_path : goal.returns-clause-place_of_the_path
returns-clause-place_of_the_path c = λ is_rest.
    let rows = c.args.self.now.rows in
    returns-clause-place_of_the_text c
    ∙ joined_place rows c.args.front.now c.args.rest.now
    (normal_rows rows rows
    (subst (λ (site : Site). AllByRecursion (IsRowOf site.rows) site.rows) c.self.view_is c.self.invariant.each_row))
    c.search.ensures.normal is_rest
