use Rattle.std.proofs.Common.{◌≡◌, length}
use Rattle.filter_check.proofs.Alike.{AreMarked}
use Rattle.filter_check.proofs.loads.loaded_words.Given as goal

abbrev pub invariant-loop-insn : goal.invariant-loop-insn
invariant-loop-insn l = record {
  sixteen : length l.marks ≡ 16;
  marked : AreMarked l.insns l.insn-index l.marks;
}
