use Rattle.std.proofs.Common.{◌≡◌, ◌++◌, map, take, drop}
use Rattle.name_table.proofs.mark_each.Given as goal

-- the lines before the index are marked, and the others are as they were
abbrev pub invariant-loop-line : goal.invariant-loop-line
invariant-loop-line g l = l.lines ≡ map (g.L.Marked.marked l.mark) (take l.line-index l.initial.lines)
    ++ drop l.line-index l.initial.lines
