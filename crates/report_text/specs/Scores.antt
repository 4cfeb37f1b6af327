-- The lines of scores.
use Rattle.std.specs.Prelude.{ℕ, List, [], ◌∷◌, ◌++◌, codes, cond}
use Rattle.std.specs.Fmt.{decimal}
use Rattle.exposure_score.specs.text_forms.Escaped.{escaped_word}
use Rattle.exposure_score.specs.declared.rows.ScoreRow.{ScoreRow}

-- a test that neither a fact nor a stored test decides
abbrev pub skip_line : List ℕ → List ℕ
skip_line id = codes "skip " ++ (escaped_word id ++ 10 ∷ [])

-- the numbers of a test: how bad the service is by it, the policy's range and weight, and the part of the weight that counts
abbrev pub numbers_of : ScoreRow → List ℕ
numbers_of row =
    codes " badness " ++ (decimal row.badness ++
    (codes " range " ++ (decimal row.range ++
    (codes " weight " ++ (decimal row.weight ++ (codes " term " ++ (decimal row.term ++ 10 ∷ [])))))))

abbrev pub test_line : ScoreRow → List ℕ
test_line row = codes "test " ++ (escaped_word row.id ++ numbers_of row)

-- what a test of a policy came to
abbrev pub score_line : ScoreRow → List ℕ
score_line row = cond row.skipped (skip_line row.id) (test_line row)

-- the exposure, and the threshold that it is held against
abbrev pub exposure_line : ℕ → ℕ → List ℕ
exposure_line exposure threshold = codes "exposure " ++ (decimal exposure ++ (codes " threshold " ++ (decimal threshold ++ 10 ∷ [])))
