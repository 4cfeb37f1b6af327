use Rattle.std.proofs.Common.{arith}
use Rattle.kern_mounts.proofs.Known.{knows_still, knows_less}
use Rattle.kern_mounts.proofs.table.umount.known_still.Goals as goal

pub returns-then-known-at : goal.returns-then-known-at
returns-then-known-at c =
    record { knows_those = λ table rest knows le. knows_still table rest _ _ _ knows (omega (arith, c.if-known-at.true)) le }

pub returns : goal.returns
returns c = record {
  knows_those = λ table rest knows le. knows_less table rest _ _ _ _ _ knows (omega (arith, c.if-known-at.false))
      (omega (arith, c.keep.ensures.few)) c.keep.ensures.first_stay;
}
