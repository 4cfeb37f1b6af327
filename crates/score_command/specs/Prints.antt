-- What `score` prints, by the files.
use Rattle.std.specs.Prelude.{◌≡◌, ◌⊎◌, ℕ, IsSome, List, Some, Ok}
use Rattle.unit_inputs.specs.host_io.Files.{Files}
use Rattle.unit_inputs.specs.exec_settings.declared.service.Settings.{Settings}
use Rattle.report_text.specs.exposure_score.StoredTests.{StoredTests}
use Rattle.report_text.specs.exposure_score.declared.facts.Facts.{Facts}
use Rattle.report_text.specs.exposure_score.declared.rows.Score.{Score}
use Rattle.report_text.specs.exposure_score.declared.policy_file.policy.PolicyTest.{PolicyTest}
use Rattle.report_text.specs.exposure_score.service_facts.Facts.{AreFacts}
use Rattle.unit_inputs.specs.command_answers.Laws.{FileLaws}
use Rattle.unit_inputs.specs.declared.command_answers.exit_status.ExitStatus.{ExitStatus}
use Rattle.unit_inputs.specs.declared.command_answers.exit_status.ExitStatus.TheVariants.{Done, AboveThreshold}
use Rattle.unit_inputs.specs.Inputs.{Inputs, inputs_of}
use Rattle.unit_inputs.specs.unit_names.Cutting.{name_of}
use Rattle.unit_inputs.specs.Settled.{AreSettled}
use Rattle.score_command.specs.Policies.{policy_in}
use Rattle.score_command.specs.Refusals.{score_refusals}
use Rattle.score_command.specs.Texts.{status_by, score_text}
use Rattle.score_command.specs.Weighed.{IsScoreOf}
use Rattle.score_command.specs.declared.ready.Scored.{Scored}

-- the score of the unit by the policy: its settings give facts, and by them and the stored tests the policy weighs the service
pub record PrintsScore (files : Files) (unit path : List ℕ) (threshold : ℕ) (stored : StoredTests) (status : ExitStatus) (text : List ℕ) : Type 0 where
  pub inputs : Inputs
  pub inputs_are : inputs_of files unit ≡ Some inputs
  pub policy : List PolicyTest
  pub policy_is : policy_in files path ≡ Ok policy
  pub settings : Settings
  pub are_settings : AreSettled inputs settings
  pub facts : Facts
  pub are_facts : AreFacts inputs.unit inputs.calls settings facts
  pub score : Score
  pub is_score : IsScoreOf stored facts policy score
  pub is_its_text : text ≡ score_text score threshold
  pub is_its_status : status ≡ status_by score threshold

-- the refusals in their order; an exposure above the threshold has status 1, and no other exposure has
abbrev pub score_laws : List ℕ → List ℕ → ℕ → StoredTests → FileLaws
score_laws unit path threshold stored = record {
  refusals = λ files. score_refusals files unit path stored;
  prints = λ files status text. PrintsScore files unit path threshold stored status text;
  may_end = λ status. (status ≡ Done) ⊎ (status ≡ AboveThreshold);
  reads = IsSome (name_of unit);
}

-- what is ready
abbrev pub scored_text : Scored → List ℕ
scored_text scored = score_text scored.score scored.threshold

abbrev pub status_of : Scored → ExitStatus
status_of scored = status_by scored.score scored.threshold
