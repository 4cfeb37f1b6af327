use Rattle.bpf_code.proofs.Stacks.{Asked}
use Rattle.bpf_code.proofs.stack.deciding_answer.Given as goal

abbrev pub invariant-loop-program : goal.invariant-loop-program
invariant-loop-program l = Asked l.programs l.input l.program-index l.strongest
