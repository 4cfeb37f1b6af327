use Rattle.bpf_code.proofs.Stacks.{refusals_stand}
use Rattle.bpf_code.proofs.laws.refusals_stand.Goals as goal

pub returns : goal.returns
returns c = record { stand = refusals_stand }
