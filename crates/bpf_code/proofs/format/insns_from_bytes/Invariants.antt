use Rattle.std.proofs.Common.{◌≡◌, ◌++◌, drop, map}
use Rattle.std.specs.List.{All}
use Rattle.bpf_code.specs.Reading.{Fits, insn_of}
use Rattle.bpf_code.proofs.format.insns_from_bytes.Given as goal

abbrev pub invariant-loop-chunk : goal.invariant-loop-chunk
invariant-loop-chunk l = (l.insns.items ++ map insn_of (drop l.chunk-index l.chunks) ≡ map insn_of l.chunks) × All Fits l.insns.items
