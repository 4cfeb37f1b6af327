use Rattle.kern_creds.proofs.Runs.{step_of, exec_is_bounded}
use Rattle.kern_creds.proofs.laws.permitted_grows_by_execve.Goals as goal

pub returns : goal.returns
returns c = record {
  by_nothing_else = λ creds now call e. (step_of creds now call e).permitted;
  within_bounds = exec_is_bounded;
}
