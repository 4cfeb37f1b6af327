use Rattle.bpf_code.proofs.FirstFaults.{FineBefore}
use Rattle.bpf_code.proofs.faults.first_fault.Given as goal

abbrev pub invariant-loop-place : goal.invariant-loop-place
invariant-loop-place l = FineBefore l.insns l.place
