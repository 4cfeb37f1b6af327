use Rattle.sample_inputs.proofs.CallsRead.{calls_read}
use Rattle.sample_inputs.proofs.laws.calls_are_read.Goals as goal

pub returns : goal.returns
returns c = record { table = calls_read }
