use Rattle.std.proofs.Common.{sym, rules}
use Rattle.abs_path.proofs.On.{both_start, both_step, found_stop}
use Rattle.abs_path.proofs.place_tree.arena.greatest.Goals as goal

pub loop-part-init : goal.loop-part-init
loop-part-init c = (
  search rules,
  c.requires.has_root,
  both_start c.args.nodes.now c.args.path.now c.text-rest.result.now c.last-found.result c.text-rest.ensures.normal
      c.text-rest.ensures.whole c.last-found.ensures.kept,
)

pub returns-in-None : goal.returns-in-None
returns-in-None c =
    let both = c.loop-part.invariant.2 in
    found_stop c.args.nodes.now c.args.path.now c.loop-part.at c.loop-part.rest.now c.in-Some.part.now c.in-Some.more.now
    c.loop-part.found both.0 c.in-Some.ensures.first_and_rest (sym c.in-None.ensures.way) both.1

pub loop-part-preserved : goal.loop-part-preserved
loop-part-preserved c =
    let both = c.loop-part.invariant.2 in (
      search rules,
      c.requires.in_range c.loop-part.at c.in-Some-child.child c.in-Some.part.now (sym c.in-Some-child.ensures.way),
      both_step c.args.nodes.now c.args.path.now c.loop-part.at c.in-Some-child.child c.loop-part.rest.now c.in-Some.part.now
          c.in-Some.more.now c.loop-part.found c.later-found.result
          both.0 both.1 c.in-Some.ensures.first_and_rest (sym c.in-Some-child.ensures.way)
          (rw c.last.ensures.kept at c.later-found.ensures),
    )
