use Rattle.exposure_score.proofs.Walks.{zipped_more, zipped_all}
use Rattle.exposure_score.proofs.scoring.score_rows.Goals as goal

pub loop-test-init : goal.loop-test-init
loop-test-init g c = rw c.new-rows.ensures.items tt

pub loop-test-preserved : goal.loop-test-preserved
loop-test-preserved g c =
    rw c.in_ok-push.ensures.items
    (zipped_more _ c.args.policy.now c.loop-test.test-index c.test-item.result c.loop-test.rows.items c.in_ok-score_row.field-0
    c.loop-test-test.true c.test-item.is c.loop-test.invariant c.in_ok-score_row.ensures)

pub returns : goal.returns
returns g c = zipped_all _ c.args.policy.now c.loop-test.test-index c.loop-test.rows.items c.loop-test-test.false c.loop-test.invariant
