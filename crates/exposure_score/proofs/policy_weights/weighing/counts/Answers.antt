use Rattle.std.specs.Prelude.{is_some}
use Rattle.exposure_score.specs.Badness.{stored_of}
use Rattle.exposure_score.specs.service_facts.Facts.{is_known}
use Rattle.exposure_score.specs.policy_weights.Weights.{is_counted}
use Rattle.exposure_score.proofs.PolicyWeightsSums.{known_else, known_then}
use Rattle.exposure_score.proofs.policy_weights.weighing.counts.Goals as goal

pub returns-then-known_test : goal.returns-then-known_test
unfolding is_counted
returns-then-known_test g c =
    known_then c.known_test.result (is_known c.args.id.now c.args.calls.now)
    (is_some (stored_of (λ test. test.id) c.args.tests.now c.args.id.now)) c.known_test.ensures.in_the_table c.if-known_test.true

pub returns-else-known_test : goal.returns-else-known_test
unfolding is_counted
returns-else-known_test g c =
    known_else c.known_test.result (is_known c.args.id.now c.args.calls.now) c.is_stored.result
    (is_some (stored_of (λ test. test.id) c.args.tests.now c.args.id.now)) c.known_test.ensures.in_the_table c.if-known_test.false
    c.is_stored.ensures
