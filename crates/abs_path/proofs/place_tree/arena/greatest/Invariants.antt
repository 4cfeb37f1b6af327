use Rattle.std.proofs.Common.{◌<◌, length}
use denote.Text.{Utf8}
use denote.Shadow.{shadow}
use Rattle.abs_path.proofs.On.{OnAndFound}
use Rattle.abs_path.proofs.place_tree.arena.greatest.Given as goal

-- the number of the last place that leads to the path so far
abbrev pub invariant-loop-part : goal.invariant-loop-part
invariant-loop-part l = shadow (Utf8 l.rest) × (l.at < length l.nodes) × OnAndFound l.nodes l.path l.at l.rest l.found

abbrev pub decreases-loop-part : goal.decreases-loop-part
decreases-loop-part l = length l.rest
