use Rattle.bpf_code.proofs.Tied.{accepted_by_function}
use Rattle.bpf_code.proofs.laws.accepted_by_function.Goals as goal

pub returns : goal.returns
returns c = record { gives_what_is_accepted = accepted_by_function }
