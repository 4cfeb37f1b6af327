use Rattle.std.proofs.Common.{arith}
use Rattle.abs_path.proofs.ByteOrder.{longer_is_no_prefix}
use Rattle.abs_path.proofs.path.AbsPath.is_prefix.Goals as goal

pub returns-then-tail_len : goal.returns-then-tail_len
returns-then-tail_len c = record {
  by_whole_parts = longer_is_no_prefix c.args.self.now c.args.of.now
      (omega (arith, c.if-tail_len.true, c.tail_len.ensures.length, c.tail_len-2.ensures.length));
}
