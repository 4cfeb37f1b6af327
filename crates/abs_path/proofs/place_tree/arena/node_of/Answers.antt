use Rattle.std.proofs.Common.{◌∙◌, sym, rules}
use Rattle.abs_path.proofs.On.{on_start, on_step, no_node}
use Rattle.abs_path.proofs.place_tree.arena.node_of.Goals as goal

pub loop-part-init : goal.loop-part-init
loop-part-init c = (search rules, c.requires.has_root, on_start c.args.nodes.now c.args.path.now c.text-rest.result.now c.text-rest.ensures.normal c.text-rest.ensures.whole)

pub returns-in_err-at-clause-node : goal.returns-in_err-at-clause-node
returns-in_err-at-clause-node c =
    c.from_residual.ensures ∙ sym
    (no_node c.args.nodes.now c.args.path.now c.loop-part.at c.loop-part.rest.now c.in-Some.part.now c.in-Some.more.now
    c.loop-part.invariant.2 c.in-Some.ensures.first_and_rest (sym c.in_err-at.ensures.way))

pub loop-part-preserved : goal.loop-part-preserved
loop-part-preserved c = (
  search rules,
  c.requires.in_range c.loop-part.at c.in_ok-at.at c.in-Some.part.now (sym c.in_ok-at.ensures.way),
  on_step c.args.nodes.now c.args.path.now c.loop-part.at c.in_ok-at.at c.loop-part.rest.now c.in-Some.part.now c.in-Some.more.now
      c.loop-part.invariant.2 c.in-Some.ensures.first_and_rest (sym c.in_ok-at.ensures.way),
)
