use Rattle.asked_service.proofs.OneLaunch.{launches_once}
use Rattle.asked_service.proofs.laws.one_launch.Goals as goal

pub returns : goal.returns
returns c = record { one_answer = launches_once }
