use Rattle.script_text.proofs.Zeros.{zero_left, last_is_left}
use Rattle.script_text.proofs.printing.without_last_zeros.Goals as goal

pub loop-last-preserved : goal.loop-last-preserved
loop-last-preserved c = zero_left c.loop-last.left.now c.in-Some.front.now c.in-Some.last.now c.args.args.now c.in-Some.ensures.cases.0
    c.if-last-ne0.false c.loop-last.invariant

pub returns-then-last-ne0 : goal.returns-then-last-ne0
returns-then-last-ne0 c = last_is_left c.loop-last.left.now c.in-Some.front.now c.in-Some.last.now c.args.args.now
    c.in-Some.ensures.cases.0 c.if-last-ne0.true c.loop-last.invariant
