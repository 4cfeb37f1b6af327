-- A report that is prepared, started and printed runs by its laws.
use Rattle.std.proofs.Common.{◌≡◌, ℕ, List, Result, Ok, Err, ◌∙◌, refl, sym, ap, subst, inl, inr}
use Rattle.std.specs.Prelude.{◌⊎◌, IsErrOf, IsTrue}
use Rattle.asked_service.specs.host_io.Agreeing.{ForFiles}
use Rattle.asked_service.specs.host_io.Files.{Files}
use Rattle.asked_service.specs.unit_inputs.command_answers.ExitStatuses.{is_answer}
use Rattle.asked_service.specs.unit_inputs.command_answers.Laws.{AcceptsFiles, GoTogether, laws_over}
use Rattle.asked_service.specs.unit_inputs.command_answers.Runs.{IsRun, Outside}
use Rattle.asked_service.specs.unit_inputs.command_answers.CommandErrors.{HasReadCause, Prepares}
use Rattle.asked_service.specs.unit_inputs.declared.command_answers.exit_status.ExitStatus.{ExitStatus}
use Rattle.asked_service.specs.unit_inputs.declared.command_answers.exit_status.ExitStatus.TheVariants.{Done, LaunchRefused}
use Rattle.asked_service.specs.unit_inputs.declared.command_answers.error.CommandError.TheVariants as stop
use Rattle.asked_service.proofs.OfUnitInputs.FileCommands.{go_together, ready_is_admitted}
use Rattle.asked_service.proofs.OfUnitInputs.Refusing.{quiet, stops_as}
use Rattle.asked_service.proofs.OfUnitInputs.Runs.{ran}
use Rattle.asked_service.proofs.OfUnitInputs.Stopped.{ran_stopped}
use Rattle.asked_service.specs.call_table.Table as calls
use Rattle.asked_service.specs.site_table.Table.{Site}
use Rattle.asked_service.specs.launching.Starting.{start_refusals}
use Rattle.asked_service.specs.exec_settings.declared.service.Settings.{Settings}
use Rattle.asked_service.specs.unit_inputs.Settled.{unit_refusals}
use Rattle.asked_service.specs.unit_inputs.command_answers.Printing.{Finishes}
use Rattle.asked_service.specs.unit_inputs.declared.command_answers.error.CommandError.{CommandError}
use Rattle.asked_service.specs.plan_command.Prints.{plan_refusals}
use Rattle.asked_service.specs.Asking.{IsAsked, launch_in, world_in}
use Rattle.judge_command.specs.Asked.{asked_text}
use Rattle.asked_service.specs.ByRule.{AnswersAreTrue, BlindFoldersAreNamed, answers_of, folders_of}
use Rattle.asked_service.specs.launching.Settled.{IsSettled, inputs_in}
use Rattle.judge_command.specs.Prepared.{IsPrepared, unit_in}
use Rattle.judge_command.specs.Prints.{PrintsReport, TellsLaunch, TellsService, judge_laws}
use Rattle.judge_command.specs.Report.{report_text}
use Rattle.judge_command.specs.Started.{FinishesStarted, IsStarted, launch_by, status_of, text_of, told_text}
use Rattle.judge_command.proofs.Prepared.{behind_settings}
use Rattle.asked_service.specs.declared.asking.Asked.{Asked}
use Rattle.judge_command.specs.declared.launching.Outcome.{Outcome}
use Rattle.judge_command.specs.declared.launching.Outcome.TheVariants as outcome
use Rattle.asked_service.specs.unit_inputs.declared.settling.SettledUnit.{SettledUnit}

module _ (agrees : Files → Type 0) (unit : List ℕ) where
  -- each ending behind a report is an answer
  answered : (status : ExitStatus) → (judge_laws unit).may_end status → IsTrue (is_answer status)
  answered status (inl done) = subst (λ e. IsTrue (is_answer e)) (sym done) refl
  answered status (inr refused) = subst (λ e. IsTrue (is_answer e)) (sym refused) refl

  pub together : GoTogether (laws_over agrees (judge_laws unit))
  together = go_together (judge_laws unit) agrees answered

-- a launch is done or refused
ends_so : (came : Outcome) → (status_of came ≡ Done) ⊎ (status_of came ≡ LaunchRefused)
ends_so (outcome.Asked asked) = inl refl
ends_so (outcome.Refused error) = inr refl

module _ (answers : AnswersAreTrue) (folders : BlindFoldersAreNamed) where
  -- over the tables that the world was launched with
  over : (asked : Asked) → IsAsked asked → (table : calls.Table) (site : Site) → (world_in asked).calls ≡ table
      → (world_in asked).site ≡ site → TellsService table site asked.bounded.service (asked_text asked)
  over asked is table site tables sites =
      subst (λ own. TellsService own site asked.bounded.service (asked_text asked)) tables
      (subst (λ own. TellsService (world_in asked).calls own asked.bounded.service (asked_text asked)) sites
      (record {
        answers = answers_of (world_in asked) asked.bounded.service.program;
        are_answers = answers (world_in asked) asked.bounded.service.program is.bounded.served is.program;
        folders = folders_of (launch_in asked) (world_in asked).site.rows;
        are_blind = folders (world_in asked) is.bounded.served;
        is_its_text = refl;
      }))

  tells_it : (one : SettledUnit) (came : Outcome) → IsStarted one came → TellsLaunch (inputs_in one).calls (inputs_in one).site
      (launch_by came) (status_of came) (told_text came)
  tells_it one (outcome.Asked asked) started =
      let left = started.0.0.launched.leaves_one_process.leaves.is in
      (refl, over asked started.1 (inputs_in one).calls (inputs_in one).site (ap (λ made. made.calls) left) (ap (λ made. made.site) left))
  tells_it one (outcome.Refused error) started = (refl, refl)

  -- what is started prints what the files say
  prints_it : (agrees : Files → Type 0) (unit : List ℕ) (one : SettledUnit) (came : Outcome) → IsSettled one
      → ForFiles agrees (λ files. Prepares (IsPrepared files unit) (unit_refusals files unit) (Ok one))
      → Prepares (IsStarted one) (start_refusals unit (inputs_in one)) (Ok came)
      → ForFiles agrees (λ files. AcceptsFiles (judge_laws unit) files × PrintsReport files unit (status_of came) (text_of unit one came))
  prints_it agrees unit one came settled is started files agree = (
    behind_settings unit one files settled (is files agree).0 (is files agree).1 ∙ started.0,
    record {
      inputs = inputs_in one;
      inputs_are = (is files agree).1;
      launch = launch_by came;
      starts = started.1.0.0;
      told = told_text came;
      tells = tells_it one came started.1;
      is_its_text = ap (λ (own : Settings). report_text unit (unit_in one).files own.notes.items (told_text came))
          (sym started.1.0.1);
    },
  )

  -- a path is refused
  stops_it : (agrees : Files → Type 0) (unit : List ℕ) (one : SettledUnit) (why : CommandError) → IsSettled one
      → ForFiles agrees (λ files. Prepares (IsPrepared files unit) (unit_refusals files unit) (Ok one))
      → Prepares (IsStarted one) (start_refusals unit (inputs_in one)) (Err why)
      → ForFiles agrees (λ files. Prepares (IsStarted one) (plan_refusals files unit) (Err why))
  stops_it agrees unit one why settled is started files agree =
      stops_as (IsStarted one) why (start_refusals unit (inputs_in one)) (plan_refusals files unit)
      (behind_settings unit one files settled (is files agree).0 (is files agree).1) started

  -- a report that is prepared
  pub ran_prepared : (agrees : Files → Type 0) (unit : List ℕ) (outside : Outside) (ended : ExitStatus) (one : SettledUnit) → IsSettled one
      → ForFiles agrees (λ files. Prepares (IsPrepared files unit) (unit_refusals files unit) (Ok one))
      → HasReadCause outside.shelf_before outside.shelf_after (Ok one) → FinishesStarted unit one ended outside.sink
      → IsRun (laws_over agrees (judge_laws unit)) ended outside
  ran_prepared agrees unit outside ended one settled is cause finished = by finished.result finished.starts finished.reads_nothing finished.finishes where
    still : outside.shelf_after ≡ outside.shelf_before
    still = cause.no_other_fault

    by : (result : Result Outcome CommandError) → Prepares (IsStarted one) (start_refusals unit (inputs_in one)) result
        → (IsErrOf result stop.ReadFault → ⊥) → Finishes status_of (text_of unit one) result ended outside.sink
        → IsRun (laws_over agrees (judge_laws unit)) ended outside
    by (Ok came) starts nothing finishes =
        ran (laws_over agrees (judge_laws unit)) (together agrees unit) outside status_of (text_of unit one) (Ok came) ended
        (ready_is_admitted (judge_laws unit) status_of (text_of unit one) agrees came (ends_so came)
        (prints_it agrees unit one came settled is starts))
        (λ e. cc) (quiet outside.shelf_before outside.shelf_after (Ok came) still nothing) finishes
    by (Err why) starts nothing finishes =
        ran_stopped (judge_laws unit) (λ files. IsStarted one) agrees (together agrees unit) outside ended why
        (stops_it agrees unit one why settled is starts) (λ e. absurd (nothing e))
        (quiet outside.shelf_before outside.shelf_after (Err why) still nothing) finishes
