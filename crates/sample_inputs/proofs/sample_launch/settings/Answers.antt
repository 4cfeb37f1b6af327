use Rattle.sample_inputs.proofs.Settling.{are_the_samples, are_not_refused}
use Rattle.sample_inputs.proofs.sample_launch.settings.Goals as goal

pub returns : goal.returns
returns c = record { not_refused = are_not_refused; are_these = are_the_samples }
