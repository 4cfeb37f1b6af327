use Rattle.std.proofs.Common.{arith}
use Rattle.abs_path.proofs.Nodes.{arena_same, have_same_nodes}
use Rattle.abs_path.proofs.place_tree.arena.renumber.Goals as goal

pub number-requires-clause-arena : goal.number-requires-clause-arena
number-requires-clause-arena c = arena_same c.args.nodes.now c.forget.new.nodes c.requires.arena (omega arith) c.forget.ensures.same_ways

pub number-requires-clause-has_nodes : goal.number-requires-clause-has_nodes
number-requires-clause-has_nodes c = have_same_nodes c.args.nodes.now c.forget.new.nodes c.args.places.now c.forget.ensures.same_ways
    c.requires.has_nodes
