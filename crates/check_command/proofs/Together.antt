-- What is ready, and the line of a refusal, are what the definitions admit, and the laws go together.
use Rattle.std.proofs.Common.{ℕ, List, Result, Ok, Err, refl, sym, subst, inl, inr}
use Rattle.std.specs.Prelude.{IsTrue}
use Rattle.unit_inputs.specs.host_io.Agreeing.{ForFiles}
use Rattle.unit_inputs.specs.host_io.Files.{Files}
use Rattle.unit_inputs.specs.command_answers.ExitStatuses.{is_answer, is_whole}
use Rattle.unit_inputs.specs.command_answers.Laws.{GoTogether, IsAdmitted}
use Rattle.unit_inputs.specs.declared.command_answers.exit_status.ExitStatus.{ExitStatus}
use Rattle.unit_inputs.specs.declared.command_answers.error.CommandError.{CommandError}
use Rattle.unit_inputs.specs.declared.command_answers.error.CommandError.TheVariants as stop
use Rattle.unit_inputs.specs.command_answers.Said.{IsSaid}
use Rattle.unit_inputs.specs.exec_settings.Dynamic.{unit_filters}
use Rattle.filter_check.specs.declared.outcome.Outcome.{Outcome}
use Rattle.filter_check.specs.declared.outcome.Outcome.TheVariants as outcome
use Rattle.unit_inputs.proofs.FileCommands.{over_go_together}
use Rattle.check_command.specs.Answers.{Answers, compared, refused_before}
use Rattle.check_command.specs.Checked.{checked_text, status_of}
use Rattle.check_command.specs.Comparing.{ComparesNamed}
use Rattle.check_command.specs.Lines.{status_by}
use Rattle.check_command.specs.Prepared.{IsPrepared, inputs_in}
use Rattle.check_command.specs.Prints.{Admits, MayBe, check_by_files, check_laws, refuses, tells}
use Rattle.check_command.specs.declared.preparing.Prepared.{Prepared}
use Rattle.check_command.specs.declared.ready.Checked.{Checked}
use Rattle.check_command.proofs.Once.{not_both}
use Rattle.check_command.proofs.OneAnswer.{one_answer}

-- an outcome is an answer
told_answers : (found : Outcome) → IsTrue (is_answer (status_by found))
told_answers (outcome.Same count) = refl
told_answers (outcome.Differs at theirs ours) = refl

may_be : (found : Outcome) → MayBe (status_by found)
may_be (outcome.Same count) = inr (inl refl)
may_be (outcome.Differs at theirs ours) = inr (inr refl)

be_whole : (status : ExitStatus) → MayBe status → IsTrue (is_whole status)
be_whole status (inl refused) = subst (λ own. IsTrue (is_whole own)) (sym refused) refl
be_whole status (inr (inl done)) = subst (λ own. IsTrue (is_whole own)) (sym done) refl
be_whole status (inr (inr differs)) = subst (λ own. IsTrue (is_whole own)) (sym differs) refl

module _ (unit name path : List ℕ) where
  module _ (files : Files) where
    -- where there is an outcome, nothing is refused
    admitted_answers : (one : Outcome) → Answers files unit name path (Ok one) → (status : ExitStatus) (text : List ℕ)
        → Admits files unit name path status text → IsTrue (is_answer status)
    admitted_answers one are _ _ (refuses line is) = absurd (not_both one line (one_answer files unit name path (Ok one) (Err line) are is))
    admitted_answers one are _ _ (tells found is) = told_answers found

  pub together : (agrees : Files → Type 0) → GoTogether (check_laws agrees unit name path)
  together agrees = over_go_together (check_by_files unit name path) agrees be_whole (λ files status text admitted. (text, admitted))
      (λ files accepts status may. admitted_answers files accepts.0 accepts.1 status may.0 may.1)

  -- what is refused before anything is compared
  pub stops_before : (agrees : Files → Type 0) (why : CommandError) → ForFiles agrees (λ files. IsPrepared files unit path (Err why))
      → IsAdmitted (check_laws agrees unit name path) status_of checked_text (Err why)
  stops_before agrees (stop.Refused line) said = record {
    whatever_the_files = inl refl;
    by_the_files = λ files agree. refuses line.items (refused_before line.items (said files agree));
  }
  stops_before agrees stop.ReadFault said = tt
  stops_before agrees stop.Memory said = tt

  module _ (prepared : Prepared) where
    -- what comes of a comparison of what is prepared
    abbrev IsComparison : Result Checked CommandError → Type 0
    IsComparison result = IsSaid (λ (checked : Checked). checked.outcome)
        (ComparesNamed unit name path (unit_filters (inputs_in prepared).unit (inputs_in prepared).calls)
        (inputs_in prepared).calls prepared.program) result

    pub compared_as : (agrees : Files → Type 0) (result : Result Checked CommandError)
        → ForFiles agrees (λ files. IsPrepared files unit path (Ok prepared)) → IsComparison result
        → IsAdmitted (check_laws agrees unit name path) status_of checked_text result
    compared_as agrees (Ok checked) ready said = record {
      whatever_the_files = may_be checked.outcome;
      by_the_files = λ files agree. tells checked.outcome
          (compared (inputs_in prepared) prepared.program (Ok checked.outcome) (ready files agree) said);
    }
    compared_as agrees (Err (stop.Refused line)) ready said = record {
      whatever_the_files = inl refl;
      by_the_files = λ files agree. refuses line.items
          (compared (inputs_in prepared) prepared.program (Err line.items) (ready files agree) said);
    }
    compared_as agrees (Err stop.ReadFault) ready said = tt
    compared_as agrees (Err stop.Memory) ready said = tt
