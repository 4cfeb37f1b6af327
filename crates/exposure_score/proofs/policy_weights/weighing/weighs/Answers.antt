use Rattle.std.proofs.Common.{ap, ◌∙◌}
use Rattle.std.specs.Prelude.{nat_lt, ◌&&◌}
use Rattle.std.specs.List.{list_any}
use Rattle.exposure_score.specs.declared.policy_file.policy.PolicyTest.{PolicyTest}
use Rattle.exposure_score.specs.policy_weights.Weights.{is_counted}
use Rattle.exposure_score.proofs.PolicyWeightsSums.{any_weighs}
use Rattle.exposure_score.proofs.policy_weights.weighing.weighs.Goals as goal

pub returns : goal.returns
returns g c = record {
  some_weight =
      c.have_weight.ensures
      ∙ ap (list_any (λ (test : PolicyTest). nat_lt 0 test.weight && is_counted c.args.calls.now
      (λ test. test.id) c.args.tests.now test.id)) c.list.ensures.all_in_order
      ∙ any_weighs (λ (test : PolicyTest). is_counted c.args.calls.now (λ test. test.id) c.args.tests.now test.id) c.args.policy.now;
}
