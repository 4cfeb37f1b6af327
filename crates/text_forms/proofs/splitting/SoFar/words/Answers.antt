use Rattle.std.proofs.Common.{sym, ◌∙◌}
use Rattle.text_forms.proofs.SoFar.{ends}
use Rattle.text_forms.proofs.splitting.SoFar.words.Goals as goal

pub returns-in-Ok : goal.returns-in-Ok
returns-in-Ok c = rw c.ok_or.ensures.value (ends c.args.self c.end_word.new.self.whole (sym c.is_some.ensures ∙ c.if-is_some.false) c.in-Ok.ensures.whole)
