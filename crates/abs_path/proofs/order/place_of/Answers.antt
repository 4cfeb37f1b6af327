use Rattle.abs_path.proofs.Putting.{stands_there, goes_behind}
use Rattle.abs_path.proofs.order.place_of.Goals as goal

pub returns-in-Equal : goal.returns-in-Equal
returns-in-Equal c = stands_there c.args.paths.now c.loop-index.index c.args.path.now c.index-paths-index.result c.loop-index-test.true c.index-paths-index.is c.in-Equal.ensures.by_bytes c.loop-index.invariant

pub loop-index-preserved : goal.loop-index-preserved
loop-index-preserved c = goes_behind c.args.paths.now c.loop-index.index c.args.path.now c.index-paths-index.result c.loop-index-test.true
    c.index-paths-index.is c.in-Greater.ensures.by_bytes c.loop-index.invariant
