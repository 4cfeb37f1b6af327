use Rattle.std.proofs.Common.{ap}
use Rattle.kernel_model.specs.kern_files.Looking.{flags_at, see_answer, write_answer}
use Rattle.kernel_model.specs.kern_files.Executing.{program_answer}
use Rattle.kernel_model.proofs.Mounted.{hidden_is_not_bound}
use Rattle.kernel_model.proofs.Seeing.{hidden_is_refused, hidden_is_not_opened}
use Rattle.kernel_model.proofs.kern_files.laws.what_is_hidden.Goals as goal

pub returns-clause-not_seen : goal.returns-clause-not_seen
returns-clause-not_seen c = λ rows table path value hidden. ap (see_answer value) (hidden_is_refused rows table path hidden)

pub returns-clause-not_written : goal.returns-clause-not_written
returns-clause-not_written c = λ rows table path value hidden. ap (write_answer value (flags_at table path))
    (hidden_is_refused rows table path hidden)

pub returns-clause-not_opened : goal.returns-clause-not_opened
returns-clause-not_opened c = hidden_is_not_opened

pub returns-clause-not_executed : goal.returns-clause-not_executed
returns-clause-not_executed c = λ rows table path hidden. ap (program_answer (flags_at table path))
    (hidden_is_refused rows table path hidden)

pub returns-clause-not_bound : goal.returns-clause-not_bound
returns-clause-not_bound c = hidden_is_not_bound
