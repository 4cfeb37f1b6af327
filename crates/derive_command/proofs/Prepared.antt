-- What is ready, and the line of a refusal, are what the definitions admit.
use Rattle.std.proofs.Common.{◌≡◌, ◌∙◌, ℕ, Option, Some, None, List, ◌∷◌, Result, Ok, Err, refl, sym, ap, subst, inl, inr}
use Rattle.std.specs.Prelude.{◌⊎◌, IsTrue, option_map}
use Rattle.asked_service.specs.host_io.Agreeing.{ForFiles}
use Rattle.asked_service.specs.host_io.Files.{Files}
use Rattle.asked_service.specs.call_table.Table.{Table}
use Rattle.asked_service.specs.kernel_model.declared.kernel_calls.call.Call.{Call}
use Rattle.asked_service.specs.unit_inputs.command_answers.ExitStatuses.{is_answer}
use Rattle.asked_service.specs.unit_inputs.command_answers.Laws.{AcceptsFiles, GoTogether, IsAdmitted, laws_over}
use Rattle.asked_service.specs.unit_inputs.command_answers.CommandErrors.{IsAnswer, Prepares, first_refusal}
use Rattle.asked_service.specs.unit_inputs.declared.command_answers.exit_status.ExitStatus.{ExitStatus}
use Rattle.asked_service.specs.unit_inputs.declared.command_answers.exit_status.ExitStatus.TheVariants.{Done, LaunchRefused}
use Rattle.asked_service.specs.unit_inputs.declared.command_answers.error.CommandError.{CommandError}
use Rattle.asked_service.specs.unit_inputs.declared.command_answers.error.CommandError.TheVariants as stop
use Rattle.asked_service.proofs.OfUnitInputs.FileCommands.{go_together, ready_is_admitted, stop_is_admitted}
use Rattle.asked_service.proofs.OfUnitInputs.Refusing.{stops_as}
use Rattle.asked_service.specs.Scripts.{script_in}
use Rattle.asked_service.specs.launching.Starting.{start_refusals}
use Rattle.derive_command.specs.trace_profile.PlainNames.{HasPlainNames}
use Rattle.derive_command.specs.trace_profile.Scripts.{first_seccomp}
use Rattle.asked_service.specs.unit_inputs.Inputs.{Inputs, input_refusals, inputs_of, inputs_view}
use Rattle.asked_service.specs.unit_inputs.declared.inputs.UnitInputs.{UnitInputs}
use Rattle.asked_service.specs.unit_inputs.Settled.{refusals_by}
use Rattle.asked_service.proofs.OfUnitInputs.Steps as steps
use Rattle.asked_service.proofs.OfUnitInputs.Steps.{AreRead, refusals_with}
use Rattle.asked_service.specs.unit_inputs.command_answers.ReadyTexts.{status_of, text_of}
use Rattle.derive_command.specs.Prints.{PrintsAnswer, PrintsDerived, derived, refused, derive_laws}
use Rattle.derive_command.specs.Refusals.{derive_refusals, opened, refusals_behind, refusals_behind_script, refusals_by_script}
use Rattle.derive_command.specs.Refusals.{seccomp_line}
use Rattle.derive_command.specs.Telling.{AnswersCalls, allowed, not_launched}
use Rattle.asked_service.specs.unit_inputs.declared.command_answers.ready_text.ReadyText.{ReadyText}
use Rattle.derive_command.proofs.PlainInputs.{inputs_are_plain}

-- ---- behind the script

module _ (unit path : List ℕ) (inputs : Inputs) (script : List Call) where
  -- by what is found first
  abbrev refusals_from : Option ℕ → List (Option (List ℕ))
  refusals_from seccomp = option_map (seccomp_line path) seccomp ∷ start_refusals unit (opened inputs)

  -- a call asks to push a program
  pub at_seccomp : (number : ℕ) → first_seccomp inputs.calls script ≡ Some number
      → first_refusal (refusals_behind_script unit path inputs script) ≡ Some (seccomp_line path number)
  at_seccomp number is = ap (λ found. first_refusal (refusals_from found)) is

  -- none does, and the unit that allows every call comes next
  pub behind_seccomp : (P : ReadyText → Type 0) (result : Result ReadyText CommandError) → first_seccomp inputs.calls script ≡ None
      → Prepares P (start_refusals unit (opened inputs)) result → Prepares P (refusals_behind_script unit path inputs script) result
  behind_seccomp P (Ok ready) none said = (ap (λ found. first_refusal (refusals_from found)) none ∙ said.0, said.1)
  behind_seccomp P (Err (stop.Refused line)) none said = ap (λ found. first_refusal (refusals_from found)) none ∙ said
  behind_seccomp P (Err stop.ReadFault) none said = tt
  behind_seccomp P (Err stop.Memory) none said = tt

-- what answers over a table with plain names is printed
printed_answer : (inputs : Inputs) (script : List Call) → HasPlainNames inputs.calls → (status : ExitStatus) (text : List ℕ)
    → AnswersCalls inputs script status text → PrintsAnswer inputs script status text
printed_answer inputs script plain _ _ (allowed names is only) = derived names is (only plain)
printed_answer inputs script plain _ _ (not_launched refusal is) = refused refusal is

-- ---- the whole
module _ (agrees : Files → Type 0) (unit path : List ℕ) where
  -- each ending behind what is derived is an answer
  answered : (status : ExitStatus) → (derive_laws unit path).may_end status → IsTrue (is_answer status)
  answered status (inl done) = subst (λ e. IsTrue (is_answer e)) (sym done) refl
  answered status (inr launch) = subst (λ e. IsTrue (is_answer e)) (sym launch) refl

  pub together : GoTogether (laws_over agrees (derive_laws unit path))
  together = go_together (derive_laws unit path) agrees answered

-- an input is refused
pub stops_at_inputs : (P : Files → UnitInputs → Type 0) (agrees : Files → Type 0) (unit path : List ℕ) (stop : CommandError)
    → ForFiles agrees (λ files. Prepares (P files) (input_refusals files unit) (Err stop))
    → IsAdmitted (laws_over agrees (derive_laws unit path)) status_of text_of (Err stop)
stops_at_inputs P agrees unit path stop said =
    stop_is_admitted (derive_laws unit path) status_of text_of (λ (allowing : ReadyText). Unit {0}) agrees stop
    (steps.stops_at_inputs P (λ files (allowing : ReadyText). Unit {0}) agrees unit
    (λ files. refusals_by (refusals_behind files unit path) (inputs_of files unit)) stop said)

-- behind inputs that are read
behind_inputs : (files : Files) (unit path : List ℕ) (inputs : UnitInputs) → AreRead files unit inputs
    → first_refusal (derive_refusals files unit path) ≡ first_refusal
    (refusals_by_script unit path (inputs_view inputs) (script_in files path (inputs_view inputs).calls))
behind_inputs files unit path inputs read = refusals_with files unit (input_refusals files unit) (refusals_behind files unit path)
    (inputs_view inputs) read.0 read.1

-- the script is refused
refused_script : (unit path : List ℕ) (inputs : Inputs) (found : Result (List Call) (List ℕ)) (stop : CommandError)
    → IsAnswer {T = List Call} (λ script. script) (Err stop) found
    → Prepares (λ (allowing : ReadyText). Unit {0}) (refusals_by_script unit path inputs found) (Err stop)
refused_script unit path inputs found (stop.Refused line) is = ap (λ one. first_refusal (refusals_by_script unit path inputs one)) is
refused_script unit path inputs found stop.ReadFault is = tt
refused_script unit path inputs found stop.Memory is = tt

pub stops_at_script : (between agrees : Files → Type 0) (unit path : List ℕ) (inputs : UnitInputs) (table : Table) (stop : CommandError) → ForFiles agrees between
    → table ≡ (inputs_view inputs).calls
    → ForFiles between (λ files. AreRead files unit inputs)
    → ForFiles agrees (λ files. IsAnswer {T = List Call} (λ script. script) (Err stop) (script_in files path table))
    → IsAdmitted (laws_over agrees (derive_laws unit path)) status_of text_of (Err stop)
stops_at_script between agrees unit path inputs table stop stays by read said =
    stop_is_admitted (derive_laws unit path) status_of text_of (λ (allowing : ReadyText). Unit {0}) agrees stop at_script
  where
    at_script : ForFiles agrees (λ files. Prepares (λ (allowing : ReadyText). Unit {0}) (derive_refusals files unit path) (Err stop))
    at_script files agree =
        stops_as (λ (allowing : ReadyText). Unit {0}) stop
        (refusals_by_script unit path (inputs_view inputs) (script_in files path (inputs_view inputs).calls))
        (derive_refusals files unit path) (behind_inputs files unit path inputs (read files (stays files agree)))
        (refused_script unit path (inputs_view inputs) (script_in files path (inputs_view inputs).calls) stop
        (subst (λ own. IsAnswer {T = List Call} (λ script. script) (Err stop) (script_in files path own)) by
        (said files agree)))

-- behind a script that was read
module _ (between agrees : Files → Type 0) (unit path : List ℕ) (inputs : UnitInputs) (table : Table) (script : List Call) (stays : ForFiles agrees between)
    (by : table ≡ (inputs_view inputs).calls)
    (are : ForFiles between (λ files. AreRead files unit inputs)) (said : ForFiles agrees (λ files. IsAnswer (λ (script : List Call). script) (Ok script) (script_in files path table))) where
  script_is : (files : Files) → agrees files → script_in files path (inputs_view inputs).calls ≡ Ok script
  script_is files e =
      subst (λ own. script_in files path own ≡ Ok script) by
      (said files e)

  read_is : (files : Files) → agrees files → AreRead files unit inputs
  read_is files e = are files (stays files e)

  behind_script : (files : Files) → agrees files → first_refusal (derive_refusals files unit path)
      ≡ first_refusal (refusals_behind_script unit path (inputs_view inputs) script)
  behind_script files e =
      behind_inputs files unit path inputs (read_is files e)
      ∙ ap (λ one. first_refusal (refusals_by_script unit path (inputs_view inputs) one)) (script_is files e)

  -- what is answered is admitted
  admitted : (result : Result ReadyText CommandError)
      → Prepares (λ allowing. AnswersCalls (inputs_view inputs) script (status_of allowing) (text_of allowing))
      (refusals_behind_script unit path (inputs_view inputs) script) result
      → IsAdmitted (laws_over agrees (derive_laws unit path)) status_of text_of result
  admitted (Err stop) answers = stop_is_admitted (derive_laws unit path) status_of text_of
      (λ allowing. AnswersCalls (inputs_view inputs) script (status_of allowing) (text_of allowing)) agrees stop at_stop
    where
      at_stop : ForFiles agrees
          (λ files. Prepares (λ allowing. AnswersCalls (inputs_view inputs) script (status_of allowing) (text_of allowing))
          (derive_refusals files unit path) (Err stop))
      at_stop files e = stops_as (λ allowing. AnswersCalls (inputs_view inputs) script (status_of allowing) (text_of allowing))
          stop (refusals_behind_script unit path (inputs_view inputs) script) (derive_refusals files unit path)
          (behind_script files e) answers
  admitted (Ok allowing) answers = ready_is_admitted (derive_laws unit path) status_of text_of agrees allowing
      (ends_so (status_of allowing) (text_of allowing) answers.1) printed
    where
      ends_so : (status : ExitStatus) (text : List ℕ) → AnswersCalls (inputs_view inputs) script status text
          → (status ≡ Done) ⊎ (status ≡ LaunchRefused)
      ends_so _ _ (allowed names is only) = inl refl
      ends_so _ _ (not_launched refusal is) = inr refl

      printed : ForFiles agrees
          (λ files. AcceptsFiles (derive_laws unit path) files × PrintsDerived files unit path (status_of allowing) (text_of allowing))
      printed files e = (
        behind_script files e ∙ answers.0,
        record {
          inputs = inputs_view inputs;
          inputs_are = (read_is files e).1;
          script = script;
          script_is = script_is files e;
          is_the_answer = printed_answer (inputs_view inputs) script
              (inputs_are_plain files unit (inputs_view inputs) (read_is files e).1) (status_of allowing) (text_of allowing) answers.1;
        },
      )

  -- also where the inputs are lent
  pub admitted_as : (own : Inputs) (lent : List Call) (result : Result ReadyText CommandError) → own ≡ inputs_view inputs → lent ≡ script
      → Prepares (λ allowing. AnswersCalls own lent (status_of allowing) (text_of allowing))
      (refusals_behind_script unit path own lent) result
      → IsAdmitted (laws_over agrees (derive_laws unit path)) status_of text_of result
  admitted_as own lent result is lends answers =
      admitted result
      (subst (λ these. Prepares (λ allowing. AnswersCalls (inputs_view inputs) these (status_of allowing) (text_of allowing))
      (refusals_behind_script unit path (inputs_view inputs) these) result) lends
      (subst (λ these. Prepares (λ allowing. AnswersCalls these lent (status_of allowing) (text_of allowing))
      (refusals_behind_script unit path these lent) result) is answers))
