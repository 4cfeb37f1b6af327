use Rattle.std.proofs.Common.{ℕ, ◌+◌, ◌∙◌, ap, drop}
use Rattle.kernel_ways.specs.cap_sets.Sets.{union}
use Rattle.kernel_ways.specs.site_table.declared.row.Row.{Row}
use Rattle.kernel_ways.specs.kernel_laws.Bound.{gathered, gain_at, caps_before}
use Rattle.kernel_ways.specs.kernel_laws.Launched.{launch_of}
use Rattle.ceilings.proofs.Unions.{gathered_more, gathered_all}
use Rattle.ceilings.proofs.gains.caps_before.Goals as goal

pub loop-row-preserved : goal.loop-row-preserved
loop-row-preserved c =
    let f : Row → ℕ = gain_at (launch_of c.args.world.now) c.args.power in
    ap (λ caps. union caps (gathered f (drop (c.loop-row.row-index + 1) c.rows-rows.result.now)))
    (c.union-caps.ensures.union ∙ ap (union c.loop-row.caps) c.gain_at.ensures)
    ∙ gathered_more f c.loop-row.caps (caps_before (launch_of c.args.world.now) c.args.power) c.rows-rows.result.now c.loop-row.row-index
    c.row-item.result
    c.loop-row-test.true c.row-item.is c.loop-row.invariant

pub returns : goal.returns
returns c =
    gathered_all (gain_at (launch_of c.args.world.now) c.args.power) c.loop-row.caps (caps_before (launch_of c.args.world.now) c.args.power)
    c.rows-rows.result.now c.loop-row.row-index c.loop-row-test.false c.loop-row.invariant
