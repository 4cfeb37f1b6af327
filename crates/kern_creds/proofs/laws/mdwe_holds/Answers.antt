use Rattle.kern_creds.proofs.Runs.{mdwe_by_run}
use Rattle.kern_creds.proofs.laws.mdwe_holds.Goals as goal

pub returns : goal.returns
returns c = record { stays_on = mdwe_by_run }
