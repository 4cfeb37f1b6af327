use Rattle.bpf_code.proofs.Paths.{Marked}
use Rattle.bpf_code.proofs.unstored.first_marked.Given as goal

abbrev pub invariant-loop-at : goal.invariant-loop-at
invariant-loop-at l = Marked l.insns l.at l.marks
