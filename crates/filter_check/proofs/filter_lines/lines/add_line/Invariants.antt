use Rattle.filter_check.proofs.Lined.{AddsSome}
use Rattle.filter_check.proofs.filter_lines.lines.add_line.Given as goal

abbrev pub invariant-loop-at : goal.invariant-loop-at
invariant-loop-at l = AddsSome l.line l.fn.out.items l.out.items l.at
