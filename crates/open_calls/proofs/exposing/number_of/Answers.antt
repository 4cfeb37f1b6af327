use Rattle.std.proofs.Common.{◌∙◌, sym}
use Rattle.open_calls.proofs.Leading.{no_lead, some_lead}
use Rattle.open_calls.proofs.exposing.number_of.Goals as goal

pub returns-in-Some : goal.returns-in-Some
returns-in-Some c = λ power table row wish e. some_lead c.in-Some.at power table row wish (sym c.in-Some.is ∙ e)

pub returns-in-None : goal.returns-in-None
returns-in-None c = λ power table row wish e. no_lead power table row wish (sym c.in-None.is ∙ e)
