-- Each line ends in a line feed.
use Rattle.std.proofs.Common.{Bool, true, false, cond, inr, ℕ, codes}
use Rattle.std.specs.Fmt.{decimal}
use Rattle.unit_inputs.specs.text_forms.Escaped.{escaped_word}
use Rattle.report_text.specs.Scores.{exposure_line, score_line, skip_line, test_line}
use Rattle.report_text.specs.exposure_score.declared.rows.ScoreRow.{ScoreRow}
use Rattle.unit_inputs.specs.command_answers.Lines.{EndsLine, IsOfLines}
use Rattle.unit_inputs.proofs.Lines.{ends_behind, ends_feed}

skip_ends : (row : ScoreRow) → EndsLine (skip_line row.id)
skip_ends row = ends_behind (codes "skip ") _ (ends_behind (escaped_word row.id) _ ends_feed)

test_ends : (row : ScoreRow) → EndsLine (test_line row)
test_ends row =
    ends_behind (codes "test ") _ (ends_behind (escaped_word row.id) _
    (ends_behind (codes " badness ") _ (ends_behind (decimal row.badness) _
    (ends_behind (codes " range ") _ (ends_behind (decimal row.range) _
    (ends_behind (codes " weight ") _ (ends_behind (decimal row.weight) _
    (ends_behind (codes " term ") _ (ends_behind (decimal row.term) _ ends_feed)))))))))

pub score_ends : (row : ScoreRow) → IsOfLines (score_line row)
score_ends row = by_skip row.skipped
  where
    by_skip : (b : Bool) → IsOfLines (cond b (skip_line row.id) (test_line row))
    by_skip true = inr (skip_ends row)
    by_skip false = inr (test_ends row)

pub exposure_ends : (exposure threshold : ℕ) → IsOfLines (exposure_line exposure threshold)
exposure_ends exposure threshold =
    inr (ends_behind (codes "exposure ") _ (ends_behind (decimal exposure) _
    (ends_behind (codes " threshold ") _ (ends_behind (decimal threshold) _ ends_feed))))
