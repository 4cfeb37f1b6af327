use Rattle.std.proofs.Common.{◌<◌, length}
use denote.Text.{Utf8}
use denote.Shadow.{shadow}
use Rattle.abs_path.specs.place_tree.Arena.{Grows}
use Rattle.abs_path.proofs.On.{On}
use Rattle.abs_path.proofs.place_tree.arena.node_for.Given as goal

abbrev pub invariant-loop-part : goal.invariant-loop-part
invariant-loop-part l = shadow (Utf8 l.rest) × (l.at < length l.nodes.items) × Grows l.initial.nodes.items l.nodes.items × On
    l.nodes.items l.path l.at l.rest

abbrev pub decreases-loop-part : goal.decreases-loop-part
decreases-loop-part l = length l.rest
