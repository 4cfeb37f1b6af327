use Rattle.exec_settings.proofs.Alone.{means_its_command}
use Rattle.exec_settings.proofs.laws.command_alone.Goals as goal

pub returns : goal.returns
returns c = record { bare = λ unit table site alone. means_its_command unit alone table site }
