-- What is prepared, step by step.
use Rattle.std.proofs.Common.{◌≡◌, ◌∙◌, ℕ, List, [], Option, Result, Ok, Err, Vec, Global, ◌⊎◌, inl, inr, refl, sym, ap, subst}
use Rattle.std.specs.declared.alloc.AllocError.{AllocError}
use Rattle.std.specs.Prelude.{Contains, IfOk, IsErrOf, IsTrue}
use Rattle.asked_service.specs.host_io.Agreeing.{ForFiles}
use Rattle.asked_service.specs.host_io.Files.{Files}
use Rattle.asked_service.specs.call_table.Table.{Table}
use Rattle.asked_service.specs.unit_inputs.command_answers.ExitStatuses.{is_answer}
use Rattle.asked_service.specs.unit_inputs.command_answers.Laws.{AcceptsFiles, GoTogether, IsAdmitted, laws_over}
use Rattle.asked_service.specs.unit_inputs.command_answers.CommandErrors.{IsAnswer, Prepares, first_refusal, error_of_line}
use Rattle.asked_service.specs.unit_inputs.declared.command_answers.exit_status.ExitStatus.{ExitStatus}
use Rattle.asked_service.specs.unit_inputs.declared.command_answers.exit_status.ExitStatus.TheVariants.{Done, LaunchRefused}
use Rattle.asked_service.specs.unit_inputs.declared.command_answers.error.CommandError.{CommandError}
use Rattle.asked_service.specs.unit_inputs.declared.command_answers.error.CommandError.TheVariants as stop
use Rattle.asked_service.proofs.OfUnitInputs.FileCommands.{go_together, ready_is_admitted, stop_is_admitted}
use Rattle.asked_service.proofs.OfUnitInputs.Refusing.{passes, stops, stops_as}
use Rattle.why_command.specs.deciding_lines.Tried.{Tried}
use Rattle.asked_service.specs.kernel_laws.Questions as asked
use Rattle.asked_service.specs.kernel_laws.declared.question_types.question.Question.{Question}
use Rattle.asked_service.specs.site_table.Table.{Site}
use Rattle.asked_service.specs.launching.Starting.{start_refusals}
use Rattle.asked_service.specs.unit_inputs.Inputs.{Inputs, input_refusals, inputs_of, inputs_view}
use Rattle.asked_service.specs.unit_inputs.declared.inputs.UnitInputs.{UnitInputs}
use Rattle.asked_service.specs.launcher.declared.error.LaunchError.{LaunchError}
use Rattle.asked_service.specs.launcher.declared.launched.Launched.{Launched as Service}
use Rattle.asked_service.specs.unit_inputs.Settled.{refusals_by}
use Rattle.asked_service.proofs.OfUnitInputs.Steps as steps
use Rattle.asked_service.proofs.OfUnitInputs.Steps.{AreRead, refusals_with}
use Rattle.why_command.specs.Asking.{question_in, refused_question}
use Rattle.asked_service.specs.unit_inputs.command_answers.ReadyTexts.{status_of, text_of}
use Rattle.why_command.specs.Prints.{PrintsWhy, TellsLaunch, TellsWhy, refusals_behind, why_laws, why_refusals}
use Rattle.asked_service.specs.unit_inputs.declared.command_answers.ready_text.ReadyText.{ReadyText}

-- each ends as it may
ends_so : (tried : Tried) (launch : Result Service LaunchError) (status : ExitStatus) (text : List ℕ) → TellsLaunch tried launch status text
    → (status ≡ Done) ⊎ (status ≡ LaunchRefused)
ends_so tried (Err error) status text tells = inr tells.0
ends_so tried (Ok service) status text tells = inl tells.0

module _ (agrees : Files → Type 0) (unit : List ℕ) (words : List (List ℕ)) where
  -- each ending behind an answer is one
  answered : (status : ExitStatus) → (why_laws unit words).may_end status → IsTrue (is_answer status)
  answered status (inl done) = subst (λ e. IsTrue (is_answer e)) (sym done) refl
  answered status (inr launch) = subst (λ e. IsTrue (is_answer e)) (sym launch) refl

  pub together : GoTogether (laws_over agrees (why_laws unit words))
  together = go_together (why_laws unit words) agrees answered

-- an input is refused
pub stops_at_inputs : (P : Files → UnitInputs → Type 0) (agrees : Files → Type 0) (unit : List ℕ) (words : List (List ℕ)) (stop : CommandError)
    → ForFiles agrees (λ files. Prepares (P files) (input_refusals files unit) (Err stop))
    → IsAdmitted (laws_over agrees (why_laws unit words)) status_of text_of (Err stop)
stops_at_inputs P agrees unit words stop said =
    stop_is_admitted (why_laws unit words) status_of text_of (λ (made : ReadyText). Unit {0}) agrees stop
    (steps.stops_at_inputs P (λ files (made : ReadyText). Unit {0}) agrees unit
    (λ files. refusals_by (refusals_behind unit words) (inputs_of files unit)) stop said)

module _ (agrees : Files → Type 0) (unit : List ℕ) (words : List (List ℕ)) (inputs : UnitInputs) (are : ForFiles agrees (λ files. AreRead files unit inputs)) where
  read_is : (files : Files) → agrees files → AreRead files unit inputs
  read_is files e = are files e

  behind_inputs : (files : Files) → agrees files → first_refusal (why_refusals files unit words)
      ≡ first_refusal (refusals_behind unit words (inputs_view inputs))
  behind_inputs files e = refusals_with files unit (input_refusals files unit) (refusals_behind unit words) (inputs_view inputs)
      (read_is files e).0 (read_is files e).1

  -- what stops behind them is admitted
  stops_behind : (P : ReadyText → Type 0) (some : List (Option (List ℕ))) (why : CommandError)
      → first_refusal (refusals_behind unit words (inputs_view inputs)) ≡ first_refusal some → Prepares P some (Err why)
      → IsAdmitted (laws_over agrees (why_laws unit words)) status_of text_of (Err why)
  stops_behind P some why same is = stop_is_admitted (why_laws unit words) status_of text_of P agrees why at
    where
      at : ForFiles agrees (λ files. Prepares P (why_refusals files unit words) (Err why))
      at files e = stops_as P why some (why_refusals files unit words) (behind_inputs files e ∙ same) is

  -- the words are no question
  pub stops_at_question : (calls : Table) (site : Site) (why : CommandError) → calls ≡ (inputs_view inputs).calls → site ≡ (inputs_view inputs).site
      → IsAnswer (λ (question : Question). question) (Err why) (question_in calls site words)
      → IsAdmitted (laws_over agrees (why_laws unit words)) status_of text_of (Err why)
  stops_at_question calls site why one two is =
      stops_behind (λ made. Unit {0}) (refusals_behind unit words (inputs_view inputs)) why refl
      (stops (λ (question : Question). question) (λ (made : ReadyText). Unit {0})
      (question_in (inputs_view inputs).calls (inputs_view inputs).site words) why (start_refusals unit (inputs_view inputs))
      (subst (λ (own : Site). IsAnswer (λ (question : Question). question) (Err why) (question_in (inputs_view inputs).calls own words)) two
      (subst (λ (own : Table). IsAnswer (λ (question : Question). question) (Err why) (question_in own site words)) one is)))

  -- behind a question
  module _ (question : Question) (question_is : question_in (inputs_view inputs).calls (inputs_view inputs).site words ≡ Ok question) where
    abbrev tried : Tried
    tried = record { name = unit; inputs = inputs_view inputs; question = question }

    behind_question : first_refusal (refusals_behind unit words (inputs_view inputs))
        ≡ first_refusal (start_refusals unit (inputs_view inputs))
    behind_question = passes (question_in (inputs_view inputs).calls (inputs_view inputs).site words) question
        (start_refusals unit (inputs_view inputs)) question_is

    admitted : (result : Result ReadyText CommandError) → Prepares (λ made. TellsWhy tried (status_of made) (text_of made))
        (start_refusals unit (inputs_view inputs)) result → IsAdmitted (laws_over agrees (why_laws unit words)) status_of text_of result
    admitted (Err why) answers = stops_behind (λ made. TellsWhy tried (status_of made) (text_of made))
        (start_refusals unit (inputs_view inputs)) why behind_question answers
    admitted (Ok made) answers = ready_is_admitted (why_laws unit words) status_of text_of agrees made
        (ends_so tried answers.1.launch (status_of made) (text_of made) answers.1.tells) printed
      where
        printed : ForFiles agrees
            (λ files. AcceptsFiles (why_laws unit words) files × PrintsWhy files unit words (status_of made) (text_of made))
        printed files e = (
          behind_inputs files e ∙ behind_question ∙ answers.0,
          record {
            tried = tried;
            name_is = refl;
            inputs_are = (read_is files e).1;
            question_is = question_is;
            tells = answers.1;
          },
        )

  -- also where the inputs are lent
  pub admitted_as : (calls : Table) (site : Site) (question : Question) → calls ≡ (inputs_view inputs).calls
      → site ≡ (inputs_view inputs).site
      → question_in calls site words ≡ Ok question → (own : Inputs) → own ≡ inputs_view inputs → (result : Result ReadyText CommandError)
      → Prepares (λ made. TellsWhy (record { name = unit; inputs = own; question = question }) (status_of made) (text_of made))
      (start_refusals unit own) result
      → IsAdmitted (laws_over agrees (why_laws unit words)) status_of text_of result
  admitted_as calls site question one two is own same result answers =
      admitted question
      (subst (λ (these : Site). question_in (inputs_view inputs).calls these words ≡ Ok question) two
      (subst (λ (these : Table). question_in these site words ≡ Ok question) one is))
      result (subst (λ (these : Inputs). Prepares
      (λ made. TellsWhy (record { name = unit; inputs = these; question = question }) (status_of made) (text_of made))
      (start_refusals unit these) result) same answers)

-- a stop that reads nothing, whatever was wanted
pub as_any : {A B : Type 0} (why : CommandError) → (IsErrOf {T = A} (Err why) stop.ReadFault → ⊥) → IsErrOf {T = B} (Err why) stop.ReadFault → ⊥
as_any (stop.Refused line) nothing e = cc
as_any stop.ReadFault nothing e = nothing refl
as_any stop.Memory nothing e = cc

-- the line of words that are no question
pub refused_tells : (line : Result (Vec ℕ Global) AllocError) (told : CommandError) → told ≡ error_of_line line
    → IfOk line (λ l. l.items ≡ refused_question) → (wanted : Result Question (List ℕ)) → wanted ≡ Err refused_question
    → IsAnswer (λ (question : Question). question) (Err told) wanted
refused_tells (Ok line) told is holds wanted same = subst (λ one. IsAnswer (λ (question : Question). question) (Err one) wanted) (sym is)
    (same ∙ ap Err (sym holds))
refused_tells (Err none) told is holds wanted same = subst (λ one. IsAnswer (λ (question : Question). question) (Err one) wanted)
    (sym is) tt

-- also of the tables as they are lent
pub listed_as : (table other : Table) (site own : Site) → table ≡ other → site ≡ own → (question : Question)
    → Contains (asked.questions table site) question → Contains (asked.questions other own) question
listed_as table other site own one two question is =
    subst (λ (these : Table). Contains (asked.questions these own) question) one
    (subst (λ (these : Site). Contains (asked.questions table these) question) two is)
