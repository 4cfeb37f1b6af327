use Rattle.std.proofs.Common.{take}
use Rattle.abs_path.specs.place_tree.Arena.{IsTree, HasNodes}
use Rattle.abs_path.proofs.place_tree.arena.number.Given as goal

-- the tree of the places so far, in which each place has its node
abbrev pub invariant-loop-index : goal.invariant-loop-index
invariant-loop-index l = IsTree l.nodes (take l.index l.places) × HasNodes l.nodes l.places
