use Rattle.std.proofs.Common.{◌<◌, ◌+◌, length, take, refl, sym, ap, subst, arith, List}
use Rattle.std.specs.BTreeMap.{get_by_text}
use Rattle.abs_path.specs.declared.place_tree.node.Node.{Node}
use Rattle.abs_path.specs.place_tree.Arena.{IsTree, HasNodes}
use Rattle.abs_path.proofs.Nodes.{numbered_turn, numbered_each}
use Rattle.abs_path.proofs.place_tree.arena.number.Goals as goal
use Rattle.abs_path.proofs.place_tree.arena.number.Goals.{in-Some, in_default}

pub loop-index-preserved : goal.loop-index-preserved
loop-index-preserved c =
    let lt : c.loop-index.index < length c.args.places.now = omega arith in
    elim c.match-node_of.branch [
      | in-Some w ↦ subst (λ (nodes : List Node). IsTree nodes (take (c.loop-index.index + 1) c.args.places.now) × HasNodes nodes c.args.places.now) (sym w.nodes-is)
          (numbered_turn c.loop-index.nodes w.index-nodes-at.result _ w.in-Some.at c.loop-index.index c.args.places.now
          c.index-places-index.result c.loop-index.invariant.0 c.loop-index.invariant.1 lt c.index-places-index.is
          (sym w.in-Some.ensures.node) w.in-Some.ensures.in_range w.index-nodes-at.is
          (λ part. ap (λ (node : Node). get_by_text node.children part) (sym w.index-nodes-at.is)) refl)
      | in_default w ↦ absurd (numbered_each c.loop-index.nodes c.loop-index.index c.args.places.now c.index-places-index.result
          c.loop-index.invariant.1 lt c.index-places-index.is (sym w.in_default.ensures.node))
    ]
