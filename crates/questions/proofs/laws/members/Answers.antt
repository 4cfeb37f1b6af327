use Rattle.questions.proofs.Members.{what_is_asked}
use Rattle.questions.proofs.laws.members.Goals as goal

pub returns : goal.returns
returns c = record { exactly_what_is_asked = what_is_asked }
