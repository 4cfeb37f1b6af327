use Rattle.launcher.proofs.Conditions.{settings_can_be_launched}
use Rattle.launcher.proofs.laws.settings_can_be_launched.Goals as goal

pub returns : goal.returns
returns c = record { of_every_unit = settings_can_be_launched }
