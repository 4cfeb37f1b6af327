use Rattle.sample_inputs.proofs.Plans.{paths_are_not_refused, programs_are_found}
use Rattle.sample_inputs.proofs.sample_launch.plan.Goals as goal

pub returns : goal.returns
returns c = record { not_refused = paths_are_not_refused; finds_its_program = programs_are_found }
