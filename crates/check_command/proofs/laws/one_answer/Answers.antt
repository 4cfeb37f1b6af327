use Rattle.check_command.proofs.OneAnswer.{one_answer}
use Rattle.check_command.proofs.laws.one_answer.Goals as goal

pub returns : goal.returns
returns c = record { one_refusal_or_outcome = one_answer }
