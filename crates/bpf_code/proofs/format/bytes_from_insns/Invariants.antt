use Rattle.std.proofs.Common.{◌≡◌, ◌++◌, drop}
use Rattle.bpf_code.specs.Reading.{bytes_of}
use Rattle.bpf_code.proofs.format.bytes_from_insns.Given as goal

abbrev pub invariant-loop-insn : goal.invariant-loop-insn
invariant-loop-insn l = l.bytes.items ++ bytes_of (drop l.insn-index l.insns) ≡ bytes_of l.insns
