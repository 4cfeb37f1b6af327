use Rattle.std.proofs.Common.{arith, subst}
use Rattle.derive_command.specs.trace_profile.Searching.{AreKept, tried_of}
use Rattle.derive_command.proofs.Kept.{least_of}
use Rattle.derive_command.proofs.trace_profile.searching.Trial.+least.Goals as goal

pub returns-then-len : goal.returns-then-len
returns-then-len t c = record {
  none_can_be_left_out =
      least_of (tried_of c.args.self.now) c.args.names.items c.in_ok-kept.kept.items
      (subst (λ these. AreKept (tried_of c.args.self.now) these these c.in_ok-kept.kept.items) c.deref.ensures.value c.in_ok-kept.ensures)
      (omega (arith, c.len.ensures, c.len-2.ensures, c.if-len.true));
}
