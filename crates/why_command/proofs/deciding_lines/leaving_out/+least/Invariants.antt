use Rattle.std.proofs.Common.{length}
use Rattle.why_command.proofs.deciding_lines.leaving_out.+least.Given as goal

abbrev pub decreases-least : goal.decreases-least
decreases-least g l = length l.things.items
