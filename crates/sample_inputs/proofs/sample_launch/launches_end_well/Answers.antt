use Rattle.sample_inputs.proofs.EndsWell.{plain_launch_ends_well, plain_settings_are_launched}
use Rattle.sample_inputs.proofs.sample_launch.launches_end_well.Goals as goal

pub returns-clause-ends_well : goal.returns-clause-ends_well
returns-clause-ends_well c = plain_launch_ends_well

pub returns-clause-of_settings : goal.returns-clause-of_settings
returns-clause-of_settings c = plain_settings_are_launched
