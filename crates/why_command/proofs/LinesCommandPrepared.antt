-- What is prepared, by the files.
use Rattle.std.proofs.Common.{◌≡◌, ◌∙◌, ℕ, List, Result, Ok, Err, ◌⊎◌, inl, inr, refl, sym, subst}
use Rattle.std.specs.Prelude.{IsTrue}
use Rattle.asked_service.specs.host_io.Agreeing.{ForFiles}
use Rattle.asked_service.specs.host_io.Files.{Files}
use Rattle.asked_service.specs.unit_inputs.command_answers.ExitStatuses.{is_answer}
use Rattle.asked_service.specs.unit_inputs.command_answers.Laws.{AcceptsFiles, GoTogether, IsAdmitted, laws_over}
use Rattle.asked_service.specs.unit_inputs.command_answers.CommandErrors.{Prepares, first_refusal}
use Rattle.asked_service.specs.unit_inputs.declared.command_answers.exit_status.ExitStatus.{ExitStatus}
use Rattle.asked_service.specs.unit_inputs.declared.command_answers.exit_status.ExitStatus.TheVariants.{Done, LaunchRefused}
use Rattle.asked_service.specs.unit_inputs.declared.command_answers.error.CommandError.{CommandError}
use Rattle.asked_service.proofs.OfUnitInputs.FileCommands.{go_together, ready_is_admitted, stop_is_admitted}
use Rattle.asked_service.proofs.OfUnitInputs.Refusing.{stops_as}
use Rattle.asked_service.specs.launching.Starting.{start_refusals}
use Rattle.asked_service.specs.unit_inputs.Inputs.{Inputs, input_refusals, inputs_of, inputs_view}
use Rattle.asked_service.specs.unit_inputs.declared.inputs.UnitInputs.{UnitInputs}
use Rattle.asked_service.specs.launcher.declared.error.LaunchError.{LaunchError}
use Rattle.asked_service.specs.launcher.declared.launched.Launched.{Launched as Service}
use Rattle.asked_service.specs.unit_inputs.Settled.{refusals_by}
use Rattle.asked_service.proofs.OfUnitInputs.Steps.{AreRead, refusals_with}
use Rattle.asked_service.proofs.OfUnitInputs.Steps as steps
use Rattle.asked_service.specs.unit_inputs.command_answers.ReadyTexts.{status_of, text_of}
use Rattle.asked_service.specs.unit_inputs.declared.command_answers.ready_text.ReadyText.{ReadyText}
use Rattle.why_command.specs.lines_command.Prints.{PrintsLines, TellsLaunch, TellsLines, lines_laws, lines_refusals}

-- each ends as it may
ends_so : (name : List ℕ) (inputs : Inputs) (launch : Result Service LaunchError) (status : ExitStatus) (text : List ℕ)
    → TellsLaunch name inputs launch status text → (status ≡ Done) ⊎ (status ≡ LaunchRefused)
ends_so name inputs (Err error) status text tells = inr tells.0
ends_so name inputs (Ok service) status text tells = inl tells.0

module _ (agrees : Files → Type 0) (unit : List ℕ) where
  -- each ending behind an answer is one
  answered : (status : ExitStatus) → (lines_laws unit).may_end status → IsTrue (is_answer status)
  answered status (inl done) = subst (λ e. IsTrue (is_answer e)) (sym done) refl
  answered status (inr launch) = subst (λ e. IsTrue (is_answer e)) (sym launch) refl

  pub together : GoTogether (laws_over agrees (lines_laws unit))
  together = go_together (lines_laws unit) agrees answered

-- an input is refused
pub stops_at_inputs : (P : Files → UnitInputs → Type 0) (agrees : Files → Type 0) (unit : List ℕ) (stop : CommandError)
    → ForFiles agrees (λ files. Prepares (P files) (input_refusals files unit) (Err stop))
    → IsAdmitted (laws_over agrees (lines_laws unit)) status_of text_of (Err stop)
stops_at_inputs P agrees unit stop said =
    stop_is_admitted (lines_laws unit) status_of text_of (λ (made : ReadyText). Unit {0}) agrees stop
    (steps.stops_at_inputs P (λ files (made : ReadyText). Unit {0}) agrees unit
    (λ files. refusals_by (start_refusals unit) (inputs_of files unit)) stop said)

module _ (agrees : Files → Type 0) (unit : List ℕ) (inputs : UnitInputs) (are : ForFiles agrees (λ files. AreRead files unit inputs)) where
  read_is : (files : Files) → agrees files → AreRead files unit inputs
  read_is files e = are files e

  behind_inputs : (files : Files) → agrees files → first_refusal (lines_refusals files unit)
      ≡ first_refusal (start_refusals unit (inputs_view inputs))
  behind_inputs files e = refusals_with files unit (input_refusals files unit) (start_refusals unit) (inputs_view inputs)
      (read_is files e).0 (read_is files e).1

  admitted : (result : Result ReadyText CommandError) → Prepares (λ made. TellsLines unit (inputs_view inputs) (status_of made) (text_of made))
      (start_refusals unit (inputs_view inputs)) result → IsAdmitted (laws_over agrees (lines_laws unit)) status_of text_of result
  admitted (Err why) answers = stop_is_admitted (lines_laws unit) status_of text_of
      (λ made. TellsLines unit (inputs_view inputs) (status_of made) (text_of made)) agrees why at
    where
      at : ForFiles agrees (λ files. Prepares (λ made. TellsLines unit (inputs_view inputs) (status_of made) (text_of made))
          (lines_refusals files unit) (Err why))
      at files e =
          stops_as (λ made. TellsLines unit (inputs_view inputs) (status_of made) (text_of made)) why
          (start_refusals unit (inputs_view inputs)) (lines_refusals files unit) (behind_inputs files e) answers
  admitted (Ok made) answers = ready_is_admitted (lines_laws unit) status_of text_of agrees made
      (ends_so unit (inputs_view inputs) answers.1.launch (status_of made) (text_of made) answers.1.tells) printed
    where
      printed : ForFiles agrees
          (λ files. AcceptsFiles (lines_laws unit) files × PrintsLines files unit (status_of made) (text_of made))
      printed files e = (behind_inputs files e ∙ answers.0, record { inputs = inputs_view inputs; inputs_are = (read_is files e).1; tells = answers.1 })

  -- also where the inputs are lent
  pub admitted_as : (own : Inputs) → own ≡ inputs_view inputs → (result : Result ReadyText CommandError)
      → Prepares (λ made. TellsLines unit own (status_of made) (text_of made)) (start_refusals unit own) result
      → IsAdmitted (laws_over agrees (lines_laws unit)) status_of text_of result
  admitted_as own same result answers =
      admitted result (subst (λ (these : Inputs). Prepares (λ made. TellsLines unit these (status_of made) (text_of made))
      (start_refusals unit these) result) same answers)
