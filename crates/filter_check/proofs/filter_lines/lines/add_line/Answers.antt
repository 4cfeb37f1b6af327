use Rattle.std.proofs.Common.{arith}
use Rattle.filter_check.proofs.Lined.{not_sixteen, not_digits, adds_none, adds_next, adds_all}
use Rattle.filter_check.proofs.filter_lines.lines.add_line.Goals as goal

pub returns-then-line-ne16 : goal.returns-then-line-ne16
returns-then-line-ne16 c = λ own is. not_sixteen c.args.line.now own c.if-line-ne16.true is

pub returns-in-None : goal.returns-in-None
returns-in-None c = λ own is. not_digits c.args.line.now own c.loop-at.at c.loop-at-test.true c.in-None.ensures.other is

pub loop-at-preserved : goal.loop-at-preserved
loop-at-preserved c =
    adds_next c.args.line.now c.args.out.now.items c.loop-at.out.items c.push.new.self.items c.loop-at.at c.in-Some.byte (omega (arith, c.loop-at-test.true, c.if-line-ne16.false)) c.in-Some.ensures.byte.0 c.in-Some.ensures.byte.1 c.in_ok-push-in-Some.ensures.items c.loop-at.invariant
