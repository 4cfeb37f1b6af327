use Rattle.std.proofs.Common.{length, ap, arith, subst}
use Rattle.why_command.specs.deciding_lines.Least.{IsPartOf}
use Rattle.why_command.proofs.LeftOut.{part_goes_on}
use Rattle.why_command.proofs.deciding_lines.leaving_out.+least.Goals as goal

pub returns-then-len : goal.returns-then-len
returns-then-len g t c = record {
  serves = c.in_ok-kept.ensures.serves;
  each_is_needed = c.in_ok-kept.ensures.needed
      (omega (arith, c.len.ensures, c.len-2.ensures, c.if-len.true, ap length c.deref.ensures.value));
  some_in_their_order = subst (IsPartOf c.in_ok-kept.kept.things.items) c.deref.ensures.value c.in_ok-kept.ensures.part;
}

pub returns-clause-some_in_their_order : goal.returns-clause-some_in_their_order
returns-clause-some_in_their_order g t c =
    part_goes_on c.args.things.items c.in_ok-kept.kept.things.items
    (subst (IsPartOf c.in_ok-kept.kept.things.items) c.deref.ensures.value c.in_ok-kept.ensures.part) c.least.result
    c.least.ensures.some_in_their_order
