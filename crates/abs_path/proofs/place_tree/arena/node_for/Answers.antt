use Rattle.std.proofs.Common.{rules}
use Rattle.abs_path.proofs.Nodes.{grows_itself, grows_on}
use Rattle.abs_path.proofs.On.{on_start, on_step, on_grown}
use Rattle.abs_path.proofs.place_tree.arena.node_for.Goals as goal

pub loop-part-init : goal.loop-part-init
loop-part-init c = (
  search rules,
  c.requires.has_root,
  grows_itself c.args.nodes.now.items c.requires,
  on_start c.args.nodes.now.items c.args.path.now c.text-rest.result.now c.text-rest.ensures.normal c.text-rest.ensures.whole,
)

pub loop-part-preserved : goal.loop-part-preserved
loop-part-preserved c = (
  search rules,
  c.in_ok-at.ensures.in_range,
  grows_on c.args.nodes.now.items c.loop-part.nodes.items c.child_for.new.nodes.items c.loop-part.invariant.2 c.in_ok-at.ensures.grows,
  on_step c.child_for.new.nodes.items c.args.path.now c.loop-part.at c.in_ok-at.at c.loop-part.rest.now c.in-Some.part.now
      c.in-Some.more.now
      (on_grown c.loop-part.nodes.items c.child_for.new.nodes.items c.args.path.now c.loop-part.at c.loop-part.rest.now
      c.in_ok-at.ensures.grows c.loop-part.invariant.3)
      c.in-Some.ensures.first_and_rest c.in_ok-at.ensures.way,
)
