use Rattle.derive_command.proofs.Either.{either_replies}
use Rattle.derive_command.proofs.trace_profile.allow_laws.either_replies.Goals as goal

pub returns : goal.returns
returns c = record { replies = either_replies }
