use Rattle.bpf_code.proofs.Tied.{decided_by_function}
use Rattle.bpf_code.proofs.laws.decided_by_function.Goals as goal

pub returns : goal.returns
returns c = record { gives_what_is_decided = decided_by_function }
