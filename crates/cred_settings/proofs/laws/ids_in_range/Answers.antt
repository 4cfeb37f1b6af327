use Rattle.cred_settings.proofs.InRange.{ids_in_range}
use Rattle.cred_settings.proofs.laws.ids_in_range.Goals as goal

pub returns : goal.returns
returns c = record { in_range = ids_in_range }
