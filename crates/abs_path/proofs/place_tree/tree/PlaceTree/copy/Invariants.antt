use Rattle.std.proofs.Common.{◌≡◌, take}
use Rattle.abs_path.proofs.place_tree.tree.PlaceTree.copy.Given as goal

abbrev pub invariant-loop-place : goal.invariant-loop-place
invariant-loop-place l = l.tree ≡ take l.place-index l.place-items
