-- The text of a score, and how a run ends after it.
use Rattle.std.specs.Prelude.{ℕ, nat_lt, cond, List, ◌++◌, flat_map}
use Rattle.unit_inputs.specs.declared.command_answers.exit_status.ExitStatus.{ExitStatus}
use Rattle.unit_inputs.specs.declared.command_answers.exit_status.ExitStatus.TheVariants.{Done, AboveThreshold}
use Rattle.report_text.specs.exposure_score.declared.rows.Score.{Score}
use Rattle.report_text.specs.Scores.{exposure_line, score_line}

-- a line for each test of the policy, and the exposure with the threshold
abbrev pub score_text : Score → ℕ → List ℕ
score_text score threshold = flat_map score_line score.rows ++ exposure_line score.exposure threshold

-- the exposure is above the threshold, or not
abbrev pub status_by : Score → ℕ → ExitStatus
status_by score threshold = cond (nat_lt threshold score.exposure) AboveThreshold Done
