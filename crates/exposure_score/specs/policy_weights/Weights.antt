-- What a policy weighs: the weights of its tests that are not skipped.
use Rattle.std.specs.Prelude.{ℕ, ◌||◌, Bool, is_some, List, filter, sum_by}
use Rattle.exec_settings.specs.call_table.Table.{Table}
use Rattle.exposure_score.specs.Badness.{stored_of}
use Rattle.exposure_score.specs.StoredTests.{StoredTests}
use Rattle.exposure_score.specs.declared.policy_file.policy.PolicyTest.{PolicyTest}
use Rattle.exposure_score.specs.service_facts.Facts.{is_known}

-- settings decide the test, by the table of calls, or a stored test does
unfoldable pub is_counted : {T : Type 0} → Table → (T → List ℕ) → List T → List ℕ → Bool
is_counted table id_of tests id = is_known id table || is_some (stored_of id_of tests id)

-- the sum of the weights that count
abbrev pub weight_by : {T : Type 0} → Table → (T → List ℕ) → List T → List PolicyTest → ℕ
weight_by table id_of tests policy = sum_by (λ test. test.weight) (filter (λ test. is_counted table id_of tests test.id) policy)

abbrev pub weight_of : Table → StoredTests → List PolicyTest → ℕ
weight_of table stored policy = weight_by table stored.id_of stored.tests policy
