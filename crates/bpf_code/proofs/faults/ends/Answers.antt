use Rattle.bpf_code.proofs.FirstFaults.{ends_by_none, ends_by_some}
use Rattle.bpf_code.proofs.faults.ends.Goals as goal

pub returns-in-None : goal.returns-in-None
returns-in-None c = record { in_a_return = ends_by_none c.args.insns.now c.in-None.ensures.value }

pub returns-in-Some : goal.returns-in-Some
returns-in-Some c = record { in_a_return = ends_by_some c.args.insns.now c.in-Some.insn.now _ c.in-Some.ensures.value c.is_end.ensures }
