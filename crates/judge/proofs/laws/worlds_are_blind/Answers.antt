use Rattle.judge.proofs.LaunchIsBlind.{launch_is_blind}
use Rattle.judge.proofs.Runs.{replies_are_blind}
use Rattle.judge.proofs.ShownNothing.{blind_is_shown_nothing}
use Rattle.judge.proofs.laws.worlds_are_blind.Goals as goal

pub returns-clause-replies : goal.returns-clause-replies
returns-clause-replies c = replies_are_blind

pub returns-clause-launches : goal.returns-clause-launches
returns-clause-launches c = launch_is_blind

pub returns-clause-shown_nothing : goal.returns-clause-shown_nothing
returns-clause-shown_nothing c = blind_is_shown_nothing
