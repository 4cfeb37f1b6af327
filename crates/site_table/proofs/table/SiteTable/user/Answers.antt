use Rattle.std.proofs.Common.{◌∙◌, ap}
use Rattle.std.specs.Prelude.{find}
use Rattle.site_table.specs.declared.accounts.User.{User}
use Rattle.site_table.specs.Table.{Site, user_named}
use Rattle.site_table.proofs.SeenTexts.{bytes_eq-swap}
use Rattle.site_table.proofs.table.SiteTable.user.Goals as goal

pub returns : goal.returns
returns c = record {
  user_of_the_name = c.get.ensures.by_name ∙ ap (λ test. find test c.self.inside.users)
      (λ j (user : User). bytes_eq-swap c.args.name.now user.name j)
      ∙ ap (λ (site : Site). user_named site.users c.args.name.now) c.self.view_is;
}
