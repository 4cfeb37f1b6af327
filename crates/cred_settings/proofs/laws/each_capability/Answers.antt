use Rattle.cred_settings.proofs.LastLineLemmas.{last_line_decides}
use Rattle.cred_settings.proofs.LastSumLemmas.{last_sum_decides}
use Rattle.cred_settings.proofs.laws.each_capability.Goals as goal

pub returns : goal.returns
returns c = record { last_line_decides = last_line_decides; last_sum_decides = last_sum_decides }
