use Rattle.kernel_ways.proofs.Serving.{launched_is_served, launched_runs_program}
use Rattle.kernel_ways.proofs.Unlooked.{settings_pass_alike}
use Rattle.kernel_ways.proofs.launches.Goals as goal

pub returns-clause-pass_alike : goal.returns-clause-pass_alike
returns-clause-pass_alike c = settings_pass_alike

pub returns-clause-leave_a_served_world : goal.returns-clause-leave_a_served_world
returns-clause-leave_a_served_world c = launched_is_served

pub returns-clause-run_their_program : goal.returns-clause-run_their_program
returns-clause-run_their_program c = launched_runs_program
