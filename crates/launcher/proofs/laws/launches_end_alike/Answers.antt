use Rattle.launcher.proofs.LaunchesAlike.{launches_alike}
use Rattle.launcher.proofs.laws.launches_end_alike.Goals as goal

pub returns : goal.returns
returns c = record { end_alike = launches_alike }
