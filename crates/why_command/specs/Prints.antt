-- What `why` prints, by the files.
use Rattle.std.specs.Prelude.{◌≡◌, ◌⊎◌, ◌++◌, ◌∷◌, ℕ, IsSome, List, Option, Some, Result, Ok, Err, flat_map}
use Rattle.asked_service.specs.host_io.Files.{Files}
use Rattle.asked_service.specs.unit_inputs.command_answers.Laws.{FileLaws}
use Rattle.asked_service.specs.unit_inputs.command_answers.CommandErrors.{refusal_in}
use Rattle.asked_service.specs.unit_inputs.declared.command_answers.exit_status.ExitStatus.{ExitStatus}
use Rattle.asked_service.specs.unit_inputs.declared.command_answers.exit_status.ExitStatus.TheVariants.{Done, LaunchRefused}
use Rattle.why_command.specs.deciding_lines.Deciding.{IsReason}
use Rattle.why_command.specs.deciding_lines.Tried.{Tried}
use Rattle.why_command.specs.declared.deciding_lines.reason.Reason.{Reason}
use Rattle.asked_service.specs.kernel_laws.declared.question_types.verdict.Verdict.TheVariants as verdict
use Rattle.asked_service.specs.Answers.{Denied, Open, IsTrueAnswer}
use Rattle.asked_service.specs.AnswerLines.{answer_lines}
use Rattle.asked_service.specs.kernel_model.declared.kernel_calls.call.Call.{Call}
use Rattle.asked_service.specs.launcher.declared.launched.Launched.{Launched as Service}
use Rattle.asked_service.specs.launching.Starting.{StartsAs, start_refusals}
use Rattle.asked_service.specs.unit_inputs.Inputs.{Inputs, input_refusals, inputs_of}
use Rattle.asked_service.specs.launching.Refusals.{launch_line}
use Rattle.asked_service.specs.launcher.declared.error.LaunchError.{LaunchError}
use Rattle.asked_service.specs.unit_names.Cutting.{name_of}
use Rattle.asked_service.specs.unit_inputs.Settled.{refusals_by}
use Rattle.why_command.specs.Asking.{question_in}
use Rattle.why_command.specs.Lines.{reason_text}

-- the answer of `judge` to the question: open, with calls that show it, or denied, with what denies it
pub data TellsService (tried : Tried) (service : Service) (text : List ℕ) : Type 0 where
  open_by : (list : List Call) → IsTrueAnswer service.world (Open tried.question list)
      → text ≡ answer_lines tried.inputs.calls tried.inputs.site (Open tried.question list)
      → TellsService tried service text
  denied_by : (told : Reason) → IsTrueAnswer service.world (Denied tried.question) → IsReason tried told
      → text ≡ answer_lines tried.inputs.calls tried.inputs.site (Denied tried.question) ++ reason_text tried.inputs.unit told
      → TellsService tried service text

-- or the launch is refused
abbrev pub TellsLaunch : Tried → Result Service LaunchError → ExitStatus → List ℕ → Type 0
TellsLaunch tried (Err error) status text = (status ≡ LaunchRefused) × (text ≡ launch_line error)
TellsLaunch tried (Ok service) status text = (status ≡ Done) × TellsService tried service text

-- the result of the unit's launch, and the text for it
pub record TellsWhy (tried : Tried) (status : ExitStatus) (text : List ℕ) : Type 0 where
  pub launch : Result Service LaunchError
  pub starts : StartsAs tried.inputs launch
  pub tells : TellsLaunch tried launch status text

-- the refusals after the inputs: the question, and the settings and paths of the unit
abbrev pub refusals_behind : List ℕ → List (List ℕ) → Inputs → List (Option (List ℕ))
refusals_behind unit words inputs = refusal_in (question_in inputs.calls inputs.site words) ∷ start_refusals unit inputs

-- the order of refusals
abbrev pub why_refusals : Files → List ℕ → List (List ℕ) → List (Option (List ℕ))
why_refusals files unit words = input_refusals files unit ++ refusals_by (refusals_behind unit words) (inputs_of files unit)

-- by the inputs of the unit, and the question that the words ask
pub record PrintsWhy (files : Files) (unit : List ℕ) (words : List (List ℕ)) (status : ExitStatus) (text : List ℕ) : Type 0 where
  pub tried : Tried
  pub name_is : tried.name ≡ unit
  pub inputs_are : inputs_of files unit ≡ Some tried.inputs
  pub question_is : question_in tried.inputs.calls tried.inputs.site words ≡ Ok tried.question
  pub tells : TellsWhy tried status text

-- the refusals in their order; if the launch is refused, the status is 7
abbrev pub why_laws : List ℕ → List (List ℕ) → FileLaws
why_laws unit words = record {
  refusals = λ files. why_refusals files unit words;
  prints = λ files status text. PrintsWhy files unit words status text;
  may_end = λ status. (status ≡ Done) ⊎ (status ≡ LaunchRefused);
  reads = IsSome (name_of unit);
}
