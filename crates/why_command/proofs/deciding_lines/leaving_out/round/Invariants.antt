use Rattle.std.proofs.Common.{length}
use Rattle.why_command.specs.deciding_lines.LeavingOut.{IsHeld}
use Rattle.why_command.proofs.deciding_lines.leaving_out.round.Given as goal

abbrev pub invariant-loop-thing : goal.invariant-loop-thing
invariant-loop-thing g l = IsHeld (g.S.Search.serves l.search) (g.S.Search.fails l.search) l.things l.left l.kept

abbrev pub decreases-loop-thing : goal.decreases-loop-thing
decreases-loop-thing g l = length l.left
