use Rattle.std.proofs.Common.{◌≡◌, drop}
use Rattle.std.specs.Prelude.{nat_lt, ◌&&◌}
use Rattle.std.specs.List.{list_any}
use Rattle.exposure_score.specs.policy_weights.Weights.{is_counted}
use Rattle.exposure_score.proofs.policy_weights.weighing.have_weight.Given as goal

abbrev pub invariant-loop-test : goal.invariant-loop-test
invariant-loop-test g l =
    list_any (λ test. nat_lt 0 test.weight && is_counted l.calls (λ test. test.id) l.tests test.id) l.policy
    ≡ list_any (λ test. nat_lt 0 test.weight && is_counted l.calls (λ test. test.id) l.tests test.id) (drop l.test-index l.policy)
