use Rattle.launcher.proofs.LaunchWorld.{launch_leaves}
use Rattle.launcher.proofs.LaunchedWorlds.{launched_is_world}
use Rattle.launcher.proofs.laws.launches_leave.Goals as goal

pub returns-clause-leaves : goal.returns-clause-leaves
returns-clause-leaves c = launch_leaves

pub returns-clause-is_a_launched_world : goal.returns-clause-is_a_launched_world
returns-clause-is_a_launched_world c = launched_is_world
