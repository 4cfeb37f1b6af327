use Rattle.std.proofs.Common.{◌≡◌, drop}
use Rattle.std.specs.Prelude.{find}
use Rattle.std.specs.Str.{bytes_eq}
use Rattle.exposure_score.proofs.policy_weights.weighing.is_stored.Given as goal

abbrev pub invariant-loop-test : goal.invariant-loop-test
invariant-loop-test g l = find (λ test. bytes_eq test.id l.id) l.tests ≡ find (λ test. bytes_eq test.id l.id) (drop l.test-index l.tests)
