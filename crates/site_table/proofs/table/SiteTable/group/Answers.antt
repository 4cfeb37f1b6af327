use Rattle.std.proofs.Common.{◌∙◌, ap}
use Rattle.std.specs.Prelude.{find}
use Rattle.site_table.specs.declared.accounts.Group.{Group}
use Rattle.site_table.specs.Table.{Site, group_named}
use Rattle.site_table.proofs.SeenTexts.{bytes_eq-swap}
use Rattle.site_table.proofs.table.SiteTable.group.Goals as goal

pub returns : goal.returns
returns c = record {
  group_of_the_name = c.get.ensures.by_name ∙ ap (λ test. find test c.self.inside.groups)
      (λ j (group : Group). bytes_eq-swap c.args.name.now group.name j)
      ∙ ap (λ (site : Site). group_named site.groups c.args.name.now) c.self.view_is;
}
