-- A run of words is one of the same words, however they are lent.
use Rattle.std.proofs.Common.{◌≡◌, ℕ, List, inl, subst}
use Rattle.top_call.specs.host_io.Calls.{ShelfCall}
use Rattle.top_call.specs.host_io.Files.{Files}
use Rattle.top_call.specs.exposure_score.StoredTests.{StoredTests}
use Rattle.top_call.specs.tighten_command.tightening.Wishes.{Wishes}
use Rattle.top_call.specs.unit_inputs.command_answers.Runs.{Outside}
use Rattle.top_call.specs.unit_inputs.declared.command_answers.exit_status.ExitStatus.{ExitStatus}
use Rattle.top_call.specs.Promise.{DoesWhatIsAsked}
use Rattle.sandbox_cli.specs.Running.{EndsWords, asked_by}

module _ {S K : Type 0} {asks : S → ShelfCall → S → Type 0} {agrees : Files → Type 0} {stored : StoredTests} {wishes : Wishes} {outside : Outside} {shelf_before shelf_after : S} {sink_before sink_after : K} {status : ExitStatus} {lent words : List (List ℕ)} where
  pub words_ran : lent ≡ words → DoesWhatIsAsked asks (asked_by lent agrees stored wishes) outside shelf_before shelf_after status
      → EndsWords asks (asked_by words agrees stored wishes) outside shelf_before shelf_after sink_before sink_after status
  words_ran same ran = inl (subst (λ own. DoesWhatIsAsked asks (asked_by own agrees stored wishes) outside shelf_before shelf_after status)
      same ran)

  pub words_ended : lent ≡ words → EndsWords asks (asked_by lent agrees stored wishes) outside shelf_before shelf_after sink_before
      sink_after status
      → EndsWords asks (asked_by words agrees stored wishes) outside shelf_before shelf_after sink_before sink_after status
  words_ended same ended = subst
      (λ own. EndsWords asks (asked_by own agrees stored wishes) outside shelf_before shelf_after sink_before sink_after status) same ended
