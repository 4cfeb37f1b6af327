-- The score of facts by a policy and stored tests.
use Rattle.std.specs.Prelude.{List}
use Rattle.report_text.specs.exposure_score.Rows.{IsScore}
use Rattle.report_text.specs.exposure_score.StoredTests.{StoredTests}
use Rattle.report_text.specs.exposure_score.declared.facts.Facts.{Facts}
use Rattle.report_text.specs.exposure_score.declared.rows.Score.{Score}
use Rattle.report_text.specs.exposure_score.declared.policy_file.policy.PolicyTest.{PolicyTest}

abbrev pub IsScoreOf : StoredTests → Facts → List PolicyTest → Score → Type 0
IsScoreOf stored facts policy score = IsScore stored.id_of (stored.Answers facts) facts.tests stored.tests policy score
