use Rattle.std.proofs.Common.{sym, ap, ◌∙◌}
use Rattle.std.specs.Prelude.{set}
use Rattle.std.proofs.lemmas.List.Edits.{map_over_more}
use Rattle.name_table.proofs.mark_each.Goals as goal

pub loop-line-preserved : goal.loop-line-preserved
loop-line-preserved g c =
    let f = g.L.Marked.marked c.args.mark in
    let lines = c.loop-line.lines in
    let at = c.loop-line.line-index in
    ap (set lines at) (c.mark.ensures ∙ ap f (sym c.line-item.is))
    ∙ map_over_more f c.args.lines.now lines at c.line-item.result c.loop-line-test.true c.loop-line.invariant c.line-item.is
