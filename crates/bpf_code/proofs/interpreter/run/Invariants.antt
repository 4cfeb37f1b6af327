use Rattle.std.proofs.Common.{length}
use Rattle.bpf_code.proofs.Runs.{Remains}
use Rattle.bpf_code.proofs.interpreter.run.Given as goal

abbrev pub invariant-loop-insn : goal.invariant-loop-insn
invariant-loop-insn l = Remains l.fn.program l.code l.regs l.input

abbrev pub decreases-loop-insn : goal.decreases-loop-insn
decreases-loop-insn l = length l.code
