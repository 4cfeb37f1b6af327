use Rattle.derive_command.proofs.Launches.{either_launches}
use Rattle.derive_command.proofs.trace_profile.allow_laws.either_launches.Goals as goal

pub returns : goal.returns
returns c = record { launches = either_launches }
