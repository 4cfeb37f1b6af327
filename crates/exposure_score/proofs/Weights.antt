-- What counts by the facts counts by the table of tests.
use Rattle.std.proofs.Common.{◌≡◌, ◌∙◌, Bool, List, [], ◌∷◌, refl, ap}
use Rattle.std.specs.Prelude.{cond, filter, is_some, sum_by, ◌||◌}
use Rattle.std.specs.Str.{bytes_eq}
use Rattle.exec_settings.specs.call_table.Table.{Table}
use Rattle.exec_settings.specs.dropin_merge.declared.resolved.Resolved.{Resolved}
use Rattle.exec_settings.specs.declared.service.Settings.{Settings}
use Rattle.exposure_score.specs.Badness.{stored_of, is_known as is_known_by}
use Rattle.exposure_score.specs.Rows.{counted_weight}
use Rattle.exposure_score.specs.StoredTests.{StoredTests}
use Rattle.exposure_score.specs.declared.facts.Fact.{Fact}
use Rattle.exposure_score.specs.declared.facts.Facts.{Facts}
use Rattle.exposure_score.specs.declared.policy_file.policy.PolicyTest.{PolicyTest}
use Rattle.exposure_score.specs.service_facts.Facts.{AreFacts}
use Rattle.exposure_score.specs.service_facts.Sandbox.{sandbox_of}
use Rattle.exposure_score.proofs.ServiceFactsKnown.{have_facts}
use Rattle.exposure_score.specs.policy_weights.Weights.{is_counted, weight_of}
use Rattle.exposure_score.proofs.PolicyWeightsSums.{found}

module _ (p q : PolicyTest → Bool) (same : (test : PolicyTest) → p test ≡ q test) where
  -- what is filtered alike
  filtered : (policy : List PolicyTest) → filter p policy ≡ filter q policy
  filtered [] = refl
  filtered (test ∷ policy) =
      ap (λ b. cond b (test ∷ filter p policy) (filter p policy)) (same test)
      ∙ ap (λ these. cond (q test) (test ∷ these) these) (filtered policy)

-- by facts that are those of a unit
pub weighs_alike : (unit : Resolved) (table : Table) (settings : Settings) (facts : Facts) (stored : StoredTests)
    (policy : List PolicyTest) → AreFacts unit table settings facts
    → counted_weight stored.id_of facts.tests stored.tests policy ≡ weight_of table stored policy
unfolding is_counted
weighs_alike unit table settings facts stored policy are =
    ap (λ (these : List PolicyTest). sum_by (λ (test : PolicyTest). test.weight) these)
    (filtered (λ test. is_known_by stored.id_of facts.tests stored.tests test.id)
    (λ test. is_counted table stored.id_of stored.tests test.id)
    (λ test. ap (λ b. b || is_some (stored_of stored.id_of stored.tests test.id))
    (found (λ (fact : Fact). bytes_eq fact.id test.id) facts.tests
    ∙ have_facts (sandbox_of unit table settings) table facts.tests test.id are.tests))
    policy)
