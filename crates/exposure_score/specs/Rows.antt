-- The rows of a policy's tests.
use Rattle.std.specs.Prelude.{◌≡◌, ℕ, true, false, List, filter, sum_by, Option, Some, None}
use Rattle.std.specs.List.{AllZip}
use Rattle.exposure_score.specs.declared.policy_file.policy.PolicyTest.{PolicyTest}
use Rattle.exposure_score.specs.declared.facts.Fact.{Fact}
use Rattle.exposure_score.specs.declared.rows.ScoreRow.{ScoreRow}
use Rattle.exposure_score.specs.declared.rows.Score.{Score}
use Rattle.exposure_score.specs.Arithmetic.{term, exposure}
use Rattle.exposure_score.specs.Badness.{HasBadness, is_known}

-- the row of a test that is skipped
abbrev pub skipped_row : List ℕ → ScoreRow
skipped_row id = record { id = id; skipped = true; badness = 0; range = 0; weight = 0; term = 0 }

-- the row of a test with this badness
abbrev pub row_with : PolicyTest → ℕ → ScoreRow
row_with test badness = record {
  id = test.id;
  skipped = false;
  badness = badness;
  range = test.range;
  weight = test.weight;
  term = term badness test.range test.weight;
}

-- the row of a test, skipped where it has no badness
abbrev pub row_of : PolicyTest → Option ℕ → ScoreRow
row_of test None = skipped_row test.id
row_of test (Some badness) = row_with test badness

module _ {T : Type 0} (id_of : T → List ℕ) where
  -- the sum of the weights of the tests that are not skipped
  abbrev pub counted_weight : List Fact → List T → List PolicyTest → ℕ
  counted_weight facts tests policy = sum_by (λ test. test.weight) (filter (λ test. is_known id_of facts tests test.id) policy)

  module _ (Answers : T → ℕ → Type 0) (facts : List Fact) (tests : List T) where
    -- the row of a test by a badness that it may have
    pub record IsRow (test : PolicyTest) (row : ScoreRow) : Type 0 where
      pub badness : Option ℕ
      pub has : HasBadness id_of Answers facts tests test.id badness
      pub says : row ≡ row_of test badness

    -- a score by a policy: a row for each test, and the exposure
    pub record IsScore (policy : List PolicyTest) (score : Score) : Type 0 where
      pub rows : AllZip IsRow policy score.rows
      pub exposure : score.exposure ≡ exposure (sum_by (λ row. row.term) score.rows) (counted_weight facts tests policy)
