use Rattle.text_forms.proofs.SoFar.{nothing_yet}
use Rattle.text_forms.proofs.splitting.SoFar.nothing.Goals as goal

pub returns : goal.returns
returns c = nothing_yet c.new.result c.new.ensures.items
