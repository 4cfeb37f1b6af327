-- What is ready, and the line of a refusal, are what the definitions admit.
use Rattle.std.proofs.Common.{◌≡◌, ◌∙◌, ℕ, Bool, true, false, None, List, [], ◌∷◌, Result, Ok, Err, refl, sym, ap, subst, inl}
use Rattle.std.proofs.Common.{inr}
use Rattle.std.specs.Prelude.{◌⊎◌, nat_lt, IsErrOf, IsTrue}
use Rattle.unit_inputs.specs.host_io.Agreeing.{ForFiles}
use Rattle.unit_inputs.specs.host_io.Files.{Files}
use Rattle.report_text.specs.exposure_score.Rows.{counted_weight}
use Rattle.report_text.specs.exposure_score.StoredTests.{StoredTests}
use Rattle.report_text.specs.exposure_score.declared.facts.Facts.{Facts}
use Rattle.report_text.specs.exposure_score.declared.rows.Score.{Score}
use Rattle.report_text.specs.exposure_score.declared.policy_file.policy.PolicyTest.{PolicyTest}
use Rattle.report_text.proofs.OfExposureScore.Weights.{weighs_alike}
use Rattle.report_text.specs.exposure_score.service_facts.Facts.{AreFacts}
use Rattle.unit_inputs.specs.command_answers.ExitStatuses.{is_answer}
use Rattle.unit_inputs.specs.command_answers.Laws.{AcceptsFiles, GoTogether, IsAdmitted, laws_over}
use Rattle.unit_inputs.specs.command_answers.CommandErrors.{HasReadCause, Prepares, first_refusal}
use Rattle.unit_inputs.specs.declared.command_answers.exit_status.ExitStatus.{ExitStatus}
use Rattle.unit_inputs.specs.declared.command_answers.exit_status.ExitStatus.TheVariants.{Done, AboveThreshold}
use Rattle.unit_inputs.specs.declared.command_answers.error.CommandError.{CommandError}
use Rattle.unit_inputs.specs.declared.command_answers.error.CommandError.TheVariants as stop
use Rattle.unit_inputs.proofs.FileCommands.{go_together, ready_is_admitted, stop_is_admitted}
use Rattle.unit_inputs.proofs.Refusing.{stops_as, stops_before}
use Rattle.unit_inputs.specs.Inputs.{inputs_of}
use Rattle.unit_inputs.specs.Settled.{refusals_by}
use Rattle.unit_inputs.proofs.Steps.{refusals_with}
use Rattle.score_command.specs.Prepared.{CanBeWeighed, IsPrepared, inputs_in}
use Rattle.score_command.specs.Prints.{PrintsScore, status_of, score_laws, scored_text}
use Rattle.score_command.specs.Refusals.{read_refusals, score_refusals, weight_refusals, weights_in}
use Rattle.score_command.specs.Texts.{status_by}
use Rattle.score_command.specs.Weighed.{IsScoreOf}
use Rattle.score_command.specs.Weights.{weight_refusal}
use Rattle.score_command.specs.declared.preparing.Prepared.{Prepared}

module _ (agrees : Files → Type 0) (unit path : List ℕ) (threshold : ℕ) (stored : StoredTests) where
  -- each ending behind a score is an answer
  answered : (status : ExitStatus) → (score_laws unit path threshold stored).may_end status → IsTrue (is_answer status)
  answered status (inl done) = subst (λ e. IsTrue (is_answer e)) (sym done) refl
  answered status (inr above) = subst (λ e. IsTrue (is_answer e)) (sym above) refl

  pub together : GoTogether (laws_over agrees (score_laws unit path threshold stored))
  together = go_together (score_laws unit path threshold stored) agrees answered

-- a score ends as done, or is above the threshold
one_of_two : (above : Bool) (score : Score) (threshold : ℕ) → nat_lt threshold score.exposure ≡ above
    → (status_by score threshold ≡ Done) ⊎ (status_by score threshold ≡ AboveThreshold)
one_of_two true score threshold is = inr cc
one_of_two false score threshold is = inl cc

module _ (agrees : Files → Type 0) (unit path : List ℕ) (threshold : ℕ) (stored : StoredTests) where
  -- something is refused before anything is weighed
  pub stops_before_weighing : (stop : CommandError)
      → ForFiles agrees (λ files. Prepares (IsPrepared files unit path) (read_refusals files unit path) (Err stop))
      → IsAdmitted (laws_over agrees (score_laws unit path threshold stored)) status_of scored_text (Err stop)
  stops_before_weighing stop said = stop_is_admitted (score_laws unit path threshold stored) status_of scored_text
      (λ (prepared : Prepared). Unit {0}) agrees stop (refused agrees said)
    where
      refused : (agrees : Files → Type 0)
          → ForFiles agrees (λ files. Prepares (IsPrepared files unit path) (read_refusals files unit path) (Err stop))
          → ForFiles agrees (λ files. Prepares (λ (prepared : Prepared). Unit {0}) (score_refusals files unit path stored) (Err stop))
      refused agrees said files agree = stops_before (IsPrepared files unit path) (λ (prepared : Prepared). Unit {0}) stop
          (read_refusals files unit path) (refusals_by (weight_refusals files path stored) (inputs_of files unit)) (said files agree)

  module _ (prepared : Prepared) (facts : Facts) (are : AreFacts (inputs_in prepared).unit (inputs_in prepared).calls prepared.unit.settings.value facts) where
    -- what the facts leave of the weights is what the table of tests leaves
    refused_as : (files : Files) → (first_refusal (read_refusals files unit path) ≡ None) × IsPrepared files unit path prepared
        → first_refusal (score_refusals files unit path stored)
        ≡ first_refusal (weight_refusal path (counted_weight stored.id_of facts.tests stored.tests prepared.policy) ∷ [])
    refused_as files is =
        refusals_with files unit (read_refusals files unit path) (weight_refusals files path stored) (inputs_in prepared) is.0 is.1.inputs
        ∙ ap (λ (policy : Result (List PolicyTest) (List ℕ)). first_refusal (weights_in path (inputs_in prepared).calls stored policy))
        is.1.policy
        ∙ ap (λ weight. first_refusal (weight_refusal path weight ∷ []))
        (sym (weighs_alike (inputs_in prepared).unit (inputs_in prepared).calls prepared.unit.settings.value facts stored
        prepared.policy are))

    -- the policy weighs nothing
    pub stops_at_weights : (P : Score → Type 0) (stop : CommandError)
        → ForFiles agrees (λ files. Prepares (IsPrepared files unit path) (read_refusals files unit path) (Ok prepared))
        → Prepares P (weight_refusal path (counted_weight stored.id_of facts.tests stored.tests prepared.policy) ∷ []) (Err stop)
        → IsAdmitted (laws_over agrees (score_laws unit path threshold stored)) status_of scored_text (Err stop)
    stops_at_weights P stop is said = stop_is_admitted (score_laws unit path threshold stored) status_of scored_text P agrees stop
        (refused agrees is)
      where
        refused : (agrees : Files → Type 0)
            → ForFiles agrees (λ files. Prepares (IsPrepared files unit path) (read_refusals files unit path) (Ok prepared))
            → ForFiles agrees (λ files. Prepares P (score_refusals files unit path stored) (Err stop))
        refused agrees is files agree =
            stops_as P stop (weight_refusal path (counted_weight stored.id_of facts.tests stored.tests prepared.policy) ∷ [])
            (score_refusals files unit path stored) (refused_as files (is files agree)) said

    -- the score is ready
    pub ready : (score : Score) → CanBeWeighed prepared → ForFiles agrees
        (λ files. Prepares (IsPrepared files unit path) (read_refusals files unit path) (Ok prepared))
        → Prepares (IsScoreOf stored facts prepared.policy)
        (weight_refusal path (counted_weight stored.id_of facts.tests stored.tests prepared.policy) ∷ []) (Ok score)
        → IsAdmitted (laws_over agrees (score_laws unit path threshold stored)) status_of scored_text
        (Ok (record { score = score; threshold = threshold }))
    ready score can is weighed =
        ready_is_admitted (score_laws unit path threshold stored) status_of scored_text agrees
        (record { score = score; threshold = threshold })
        (one_of_two (nat_lt threshold score.exposure) score threshold refl) (prints_it agrees is)
      where
        prints_it : (agrees : Files → Type 0)
            → ForFiles agrees (λ files. Prepares (IsPrepared files unit path) (read_refusals files unit path) (Ok prepared))
            → ForFiles agrees (λ files. AcceptsFiles (score_laws unit path threshold stored) files × PrintsScore files unit path threshold
            stored (status_of (record { score = score; threshold = threshold }))
            (scored_text (record { score = score; threshold = threshold })))
        prints_it agrees is files agree = (
          refused_as files (is files agree) ∙ weighed.0,
          record {
            inputs = inputs_in prepared;
            inputs_are = (is files agree).1.inputs;
            policy = prepared.policy;
            policy_is = (is files agree).1.policy;
            settings = prepared.unit.settings.value;
            are_settings = can.settled;
            facts = facts;
            are_facts = are;
            score = score;
            is_score = weighed.1;
            is_its_text = refl;
            is_its_status = refl;
          },
        )
