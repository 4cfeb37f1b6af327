use Rattle.std.proofs.Common.{sym, ◌∙◌}
use Rattle.kernel_ways.specs.kernel_laws.Launched.{launch_of, lets_line}
use Rattle.ceilings.proofs.InTurn.{passes_here, passes_later}
use Rattle.ceilings.proofs.ruled.lets_some.Goals as goal

pub returns-then-lets_ruled : goal.returns-then-lets_ruled
returns-then-lets_ruled c =
    sym (passes_here (lets_line (launch_of c.args.world.now) c.args.kind) c.args.lines.now c.loop-at.at c.index-lines-at.result
    c.loop-at-test.true c.index-lines-at.is (sym c.lets_ruled.ensures ∙ c.if-lets_ruled.true))
    ∙ c.loop-at.invariant

pub loop-at-preserved : goal.loop-at-preserved
loop-at-preserved c =
    passes_later (lets_line (launch_of c.args.world.now) c.args.kind) c.args.lines.now c.loop-at.at c.index-lines-at.result
    c.loop-at-test.true c.index-lines-at.is (sym c.lets_ruled.ensures ∙ c.if-lets_ruled.false)
    ∙ c.loop-at.invariant
