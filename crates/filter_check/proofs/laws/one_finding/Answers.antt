use Rattle.filter_check.proofs.OneAnswer.{one_finding}
use Rattle.filter_check.proofs.laws.one_finding.Goals as goal

pub returns : goal.returns
returns c = record { only_one = one_finding }
