-- What stops before the paths is the first refusal, and the unit starts behind its settings.
use Rattle.std.proofs.Common.{◌≡◌, ◌∙◌, ℕ, Some, None, List, Ok, Err, sym, subst}
use Rattle.asked_service.specs.Asking.{IsAsked}
use Rattle.asked_service.specs.declared.asking.Asked.{Asked}
use Rattle.asked_service.specs.host_io.Agreeing.{ForFiles}
use Rattle.asked_service.specs.host_io.Files.{Files}
use Rattle.asked_service.specs.launcher.declared.error.LaunchError.{LaunchError}
use Rattle.asked_service.specs.launcher.declared.launched.Launched.{Launched as Service}
use Rattle.asked_service.specs.launching.Settled.{IsSettled, LaunchesSettled, StartsBy, inputs_in}
use Rattle.asked_service.specs.launching.Starting.{start_refusals}
use Rattle.asked_service.specs.plan_command.Prints.{plan_refusals, refused_paths}
use Rattle.asked_service.specs.unit_inputs.Inputs.{inputs_of}
use Rattle.asked_service.specs.unit_inputs.Settled.{refusals_by, unit_refusals}
use Rattle.asked_service.specs.unit_inputs.command_answers.CommandErrors.{Prepares, first_refusal}
use Rattle.asked_service.specs.unit_inputs.declared.command_answers.error.CommandError.{CommandError}
use Rattle.asked_service.specs.unit_inputs.declared.settling.SettledUnit.{SettledUnit}
use Rattle.asked_service.proofs.OfUnitInputs.Refusing.{stops_before}
use Rattle.asked_service.proofs.OfUnitInputs.Steps.{refusals_with}
use Rattle.asked_service.proofs.Started.{paths_next, starts_settled}
use Rattle.judge_command.specs.Prepared.{IsPrepared}
use Rattle.judge_command.specs.Started.{IsStarted}
use Rattle.judge_command.specs.declared.launching.Outcome.TheVariants as outcome

-- an input or a setting is refused
pub stops_before_paths : (agrees : Files → Type 0) (unit : List ℕ) (why : CommandError)
    → ForFiles agrees (λ files. Prepares (IsPrepared files unit) (unit_refusals files unit) (Err why))
    → ForFiles agrees (λ files. Prepares (IsPrepared files unit) (plan_refusals files unit) (Err why))
stops_before_paths agrees unit why said files agree =
    stops_before (IsPrepared files unit) (IsPrepared files unit) why (unit_refusals files unit)
    (refusals_by (refused_paths unit) (inputs_of files unit)) (said files agree)

module _ (unit : List ℕ) (one : SettledUnit) where
  -- behind the settings the unit is refused as it starts
  pub behind_settings : (files : Files) → IsSettled one → first_refusal (unit_refusals files unit) ≡ None
      → inputs_of files unit ≡ Some (inputs_in one)
      → first_refusal (plan_refusals files unit) ≡ first_refusal (start_refusals unit (inputs_in one))
  behind_settings files is none inputs =
      refusals_with files unit (unit_refusals files unit) (refused_paths unit) (inputs_in one) none inputs
      ∙ sym (paths_next unit one is)

  -- the service is asked
  pub started_asked : (asked : Asked) (service : Service) → asked.bounded.service ≡ service → IsAsked asked
      → LaunchesSettled one (Ok service)
      → Prepares (IsStarted one) (start_refusals unit (inputs_in one)) (Ok (outcome.Asked asked))
  started_asked asked service same asks is =
      let own = starts_settled unit one asked.bounded.service (subst (λ (own : Service). LaunchesSettled one (Ok own)) (sym same) is) in
      (own.0, (own.1, asks))

  -- the launch is refused
  pub started_refused : (error : LaunchError)
      → Prepares (λ error. StartsBy one (Err error)) (start_refusals unit (inputs_in one)) (Ok error)
      → Prepares (IsStarted one) (start_refusals unit (inputs_in one)) (Ok (outcome.Refused error))
  started_refused error is = (is.0, (is.1, tt))
