use Rattle.std.proofs.Common.{take, map}
use Rattle.filter_check.specs.filter_lines.Lines.{AreLines}
use Rattle.filter_check.proofs.filter_lines.lines.code_of_lines.Given as goal

abbrev pub invariant-loop-at : goal.invariant-loop-at
invariant-loop-at l = AreLines (take l.at (map (λ line. line.now) l.lines)) l.code.items
