use Rattle.std.proofs.Common.{length}
use Rattle.abs_path.proofs.place_tree.parts.+next_part.Given as goal

abbrev pub decreases-next_part : goal.decreases-next_part
decreases-next_part l = length l.text.now
