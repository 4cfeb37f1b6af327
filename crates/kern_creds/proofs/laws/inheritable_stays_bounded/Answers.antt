use Rattle.kern_creds.proofs.Runs.{step_of, inheritable_by_run}
use Rattle.kern_creds.proofs.laws.inheritable_stays_bounded.Goals as goal

pub returns : goal.returns
returns c = record {
  by_a_call = λ creds now call e. (step_of creds now call e).inheritable;
  by_any_calls = inheritable_by_run;
}
