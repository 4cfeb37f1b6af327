use Rattle.std.proofs.Common.{◌≡◌, ◌<◌, ℕ, None}
use Rattle.abs_path.specs.place_tree.Arena.{HasSameWays, number_at}
use Rattle.abs_path.proofs.place_tree.arena.forget.Given as goal

abbrev pub invariant-loop-node : goal.invariant-loop-node
invariant-loop-node l = HasSameWays l.initial.nodes l.nodes × ((at : ℕ) → at < l.node-index → number_at l.nodes at ≡ None)
