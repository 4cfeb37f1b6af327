use Rattle.launcher.proofs.Alike.{alike_replies, alike_runs, full_by_own, room_by_bounds}
use Rattle.launcher.proofs.laws.worlds_go_on_alike.Goals as goal

pub returns-clause-replies : goal.returns-clause-replies
returns-clause-replies c = alike_replies

pub returns-clause-runs : goal.returns-clause-runs
returns-clause-runs c = alike_runs

pub returns-clause-full : goal.returns-clause-full
returns-clause-full c = full_by_own

pub returns-clause-room : goal.returns-clause-room
returns-clause-room c = room_by_bounds
