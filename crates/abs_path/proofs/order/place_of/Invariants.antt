use Rattle.std.proofs.Common.{◌≡◌, ◌++◌, take, drop}
use Rattle.abs_path.specs.ByteOrder.{placed}
use Rattle.abs_path.proofs.order.place_of.Given as goal

abbrev pub invariant-loop-index : goal.invariant-loop-index
invariant-loop-index l = placed l.path l.paths ≡ take l.index l.paths ++ placed l.path (drop l.index l.paths)
