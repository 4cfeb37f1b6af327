-- A replay that is prepared, started and printed runs by its laws.
use Rattle.std.proofs.Common.{◌≡◌, ◌∙◌, ℕ, List, Result, Ok, Err, refl, sym, ap, subst, inl, inr}
use Rattle.std.specs.Prelude.{◌⊎◌, IsErrOf, IsTrue}
use Rattle.asked_service.specs.host_io.Agreeing.{ForFiles}
use Rattle.asked_service.specs.host_io.Files.{Files}
use Rattle.asked_service.specs.kernel_model.kernel_calls.Calls.{AreCalls}
use Rattle.asked_service.specs.kernel_model.declared.kernel_calls.call.Call.{Call}
use Rattle.asked_service.specs.launcher.Alike.{above}
use Rattle.asked_service.specs.call_table.Table.{Table}
use Rattle.asked_service.specs.unit_inputs.command_answers.ExitStatuses.{is_answer}
use Rattle.asked_service.specs.unit_inputs.command_answers.Laws.{AcceptsFiles, GoTogether, laws_over}
use Rattle.asked_service.specs.unit_inputs.command_answers.Runs.{IsRun, Outside}
use Rattle.asked_service.specs.unit_inputs.command_answers.CommandErrors.{HasReadCause, Prepares}
use Rattle.asked_service.specs.unit_inputs.declared.command_answers.exit_status.ExitStatus.{ExitStatus}
use Rattle.asked_service.specs.unit_inputs.declared.command_answers.exit_status.ExitStatus.TheVariants.{Done, LaunchRefused}
use Rattle.asked_service.specs.unit_inputs.declared.command_answers.error.CommandError.TheVariants as stop
use Rattle.asked_service.proofs.OfUnitInputs.FileCommands.{go_together, ready_is_admitted}
use Rattle.asked_service.proofs.OfUnitInputs.Refusing.{quiet, stops_as}
use Rattle.asked_service.proofs.OfUnitInputs.Runs.{ran}
use Rattle.asked_service.proofs.OfUnitInputs.Stopped.{ran_stopped}
use Rattle.asked_service.specs.launcher.declared.error.LaunchError.{LaunchError}
use Rattle.asked_service.specs.launcher.declared.launched.Launched.{Launched as Service}
use Rattle.asked_service.specs.launching.Settled.{inputs_in}
use Rattle.asked_service.specs.launching.Starting.{StartsAs, start_refusals}
use Rattle.asked_service.specs.unit_inputs.Inputs.{Inputs}
use Rattle.asked_service.specs.unit_inputs.command_answers.Printing.{Finishes}
use Rattle.asked_service.specs.unit_inputs.declared.command_answers.error.CommandError.{CommandError}
use Rattle.replay_command.specs.Prepared.{CanBeStarted, IsPrepared, replay_refusals, settled_refusals}
use Rattle.replay_command.proofs.Steps.{behind_settings}
use Rattle.replay_command.specs.Prints.{PrintsReplay, RepliesAlike, replay_laws}
use Rattle.replay_command.specs.Started.{FinishesStarted, IsStarted, status_of, text_of}
use Rattle.replay_command.specs.Texts.{status_behind, replay_text}
use Rattle.replay_command.specs.declared.preparing.Prepared.{Prepared}
use Rattle.replay_command.specs.declared.ready.Replay.{Replay}

module _ (agrees : Files → Type 0) (unit path : List ℕ) where
  -- each ending behind a replay is an answer
  answered : (status : ExitStatus) → (replay_laws unit path).may_end status → IsTrue (is_answer status)
  answered status (inl done) = subst (λ e. IsTrue (is_answer e)) (sym done) refl
  answered status (inr refused) = subst (λ e. IsTrue (is_answer e)) (sym refused) refl

  pub together : GoTogether (laws_over agrees (replay_laws unit path))
  together = go_together (replay_laws unit path) agrees answered

-- a launch is done or refused
ends_so : (launch : Result Service LaunchError) → (status_behind launch ≡ Done) ⊎ (status_behind launch ≡ LaunchRefused)
ends_so (Ok service) = inl refl
ends_so (Err error) = inr refl

-- the replies rest on no programs
replies_go_on : (inputs : Inputs) (script : List Call) (launch : Result Service LaunchError) → AreCalls script
    → (starts : StartsAs inputs launch) → RepliesAlike inputs script launch starts
replies_go_on inputs script (Ok service) are starts =
    λ programs codes others.
    let both = starts.launched.whichever_programs programs codes others in
    ((above codes both.0.base, both.0.other, both.0.same_replies script are), both.1)
replies_go_on inputs script (Err error) are starts = tt

module _ (agrees : Files → Type 0) (unit path : List ℕ) (prepared : Prepared) (can : CanBeStarted prepared)
    (is : ForFiles agrees (λ files. Prepares (IsPrepared files unit path) (settled_refusals files unit path) (Ok prepared))) where
  -- what is started prints what the files say
  prints_it : (replay : Replay) → Prepares (IsStarted prepared) (start_refusals unit (inputs_in prepared.unit)) (Ok replay)
      → ForFiles agrees (λ files. AcceptsFiles (replay_laws unit path) files × PrintsReplay files unit path (status_of replay)
      (text_of replay))
  prints_it replay started = by agrees is where
    by : (agrees : Files → Type 0) → ForFiles agrees (λ files. Prepares (IsPrepared files unit path) (settled_refusals files unit path) (Ok prepared))
        → ForFiles agrees (λ files. AcceptsFiles (replay_laws unit path) files × PrintsReplay files unit path (status_of replay)
        (text_of replay))
    by agrees is files agree = (
      behind_settings files unit path prepared.unit can.settled (is files agree).0 (is files agree).1.inputs ∙ started.0,
      record {
        inputs = inputs_in prepared.unit;
        inputs_are = (is files agree).1.inputs;
        script = prepared.script;
        script_is = (is files agree).1.script;
        launch = replay.launch;
        starts = started.1.starts.0;
        replies_alike = replies_go_on (inputs_in prepared.unit) prepared.script replay.launch can.calls started.1.starts.0;
        is_its_text =
            ap (λ (table : Table). replay_text table replay.script.now replay.launch) started.1.calls
            ∙ ap (λ (script : List Call). replay_text (inputs_in prepared.unit).calls script replay.launch) started.1.script;
        is_its_status = refl;
      },
    )

  -- a path is refused
  stops_it : (why : CommandError) → Prepares (IsStarted prepared) (start_refusals unit (inputs_in prepared.unit)) (Err why)
      → ForFiles agrees (λ files. Prepares (IsStarted prepared) (replay_refusals files unit path) (Err why))
  stops_it why started = by agrees is where
    by : (agrees : Files → Type 0) → ForFiles agrees (λ files. Prepares (IsPrepared files unit path) (settled_refusals files unit path) (Ok prepared))
        → ForFiles agrees (λ files. Prepares (IsStarted prepared) (replay_refusals files unit path) (Err why))
    by agrees is files agree =
        stops_as (IsStarted prepared) why (start_refusals unit (inputs_in prepared.unit)) (replay_refusals files unit path)
        (behind_settings files unit path prepared.unit can.settled (is files agree).0 (is files agree).1.inputs) started

  -- a replay that is prepared
  pub ran_prepared : (outside : Outside) (ended : ExitStatus) → HasReadCause outside.shelf_before outside.shelf_after (Ok prepared)
      → FinishesStarted unit prepared ended outside.sink → IsRun (laws_over agrees (replay_laws unit path)) ended outside
  ran_prepared outside ended cause finished = by finished.result finished.starts finished.reads_nothing finished.finishes where
    still : outside.shelf_after ≡ outside.shelf_before
    still = cause.no_other_fault

    by : (result : Result Replay CommandError) → Prepares (IsStarted prepared) (start_refusals unit (inputs_in prepared.unit)) result
        → (IsErrOf result stop.ReadFault → ⊥) → Finishes status_of text_of result ended outside.sink
        → IsRun (laws_over agrees (replay_laws unit path)) ended outside
    by (Ok replay) starts nothing finishes =
        ran (laws_over agrees (replay_laws unit path)) (together agrees unit path) outside status_of text_of (Ok replay) ended
        (ready_is_admitted (replay_laws unit path) status_of text_of agrees replay (ends_so replay.launch) (prints_it replay starts))
        (λ e. cc) (quiet outside.shelf_before outside.shelf_after (Ok replay) still nothing) finishes
    by (Err why) starts nothing finishes =
        ran_stopped (replay_laws unit path) (λ files. IsStarted prepared) agrees (together agrees unit path) outside ended why
        (stops_it why starts) (λ e. absurd (nothing e)) (quiet outside.shelf_before outside.shelf_after (Err why) still nothing) finishes
