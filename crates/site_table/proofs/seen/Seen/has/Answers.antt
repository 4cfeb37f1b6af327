use Rattle.std.proofs.Common.{ap, ◌∙◌}
use Rattle.site_table.specs.Texts.{has_text}
use Rattle.site_table.proofs.SeenTexts.{seen_has}
use Rattle.site_table.proofs.seen.Seen.has.Goals as goal

pub returns : goal.returns
returns c = record {
  has_it = c.contains.ensures ∙ seen_has c.self.inside.texts.keys c.args.text.now
      ∙ ap (λ texts. has_text texts c.args.text.now) c.self.view_is;
}
