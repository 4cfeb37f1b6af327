use Rattle.std.proofs.Common.{ap, ◌∙◌, string_bytes}
use Rattle.std.specs.Prelude.{◌||◌}
use Rattle.std.specs.Str.{bytes_eq}
use Rattle.site_table.specs.Texts.{has_text}
use Rattle.site_table.proofs.SeenTexts.{seen_more}
use Rattle.site_table.proofs.seen.Seen.add.Goals as goal

pub returns : goal.returns
returns c = record {
  takes_it_up = λ other.
      seen_more c.self.inside.texts c.insert.new.self (string_bytes c.in_ok-copy.copy) c.in_ok-insert.ensures.updates other
      ∙ ap (λ texts. has_text texts other || bytes_eq other (string_bytes c.in_ok-copy.copy)) c.self.view_is
      ∙ ap (λ text. has_text c.args.self.now other || bytes_eq other text) c.in_ok-copy.ensures.ok;
}
