use Rattle.kern_creds.proofs.Runs.{step_of, bounding_by_run}
use Rattle.kern_creds.proofs.laws.bounding_never_grows.Goals as goal

pub returns : goal.returns
returns c = record {
  by_a_call = λ creds now call e. (step_of creds now call e).bounding;
  by_any_calls = bounding_by_run;
}
