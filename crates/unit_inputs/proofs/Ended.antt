-- The calls have their order in a run that ends after its preparation.
use Rattle.std.proofs.Common.{◌≡◌, ℕ, List, Result, Ok, Err, sym, subst}
use Rattle.std.specs.Prelude.{IsTrue}
use Rattle.exec_settings.specs.host_io.Calls.{Ask, ShelfCall, Whole}
use Rattle.exec_settings.specs.host_io.Files.{Files}
use Rattle.unit_inputs.specs.command_answers.Asking.{course, course_of_run}
use Rattle.unit_inputs.specs.command_answers.ExitStatuses.{is_whole}
use Rattle.unit_inputs.specs.command_answers.Laws.{GoTogether, IsAdmitted, Laws}
use Rattle.unit_inputs.specs.command_answers.Printing.{Finishes, FinishesError, Output, PrintsText}
use Rattle.unit_inputs.specs.declared.command_answers.exit_status.ExitStatus.{ExitStatus}
use Rattle.unit_inputs.specs.declared.command_answers.exit_status.ExitStatus.TheVariants.{OutOfMemory}
use Rattle.unit_inputs.specs.declared.command_answers.error.CommandError.{CommandError}
use Rattle.unit_inputs.proofs.CommandAnswersEnded.{ended_so, printed_so, stopped_so}
use Rattle.unit_inputs.specs.Asking.{AsksInOrder}
use Rattle.unit_inputs.proofs.Ordering.{order_cut}

module _ {S : Type 0} (asks : S → ShelfCall → S → Type 0) (agrees : Files → Type 0) (wanted : Files → List Ask) (a b : S) where
  -- the run printed the prepared text, or the line of the error that stopped it
  pub order_finished : (laws : Laws) (together : GoTogether laws) {R : Type 0} (behind : R → ExitStatus) (text : R → List ℕ)
      (prepared : Result R CommandError) (ended : ExitStatus) (output : Output)
      → IsAdmitted laws behind text prepared → Finishes behind text prepared ended output
      → AsksInOrder asks agrees wanted a b (course prepared) → AsksInOrder asks agrees wanted a b (course_of_run ended)
  order_finished laws together behind text prepared ended output admitted finished made =
      ended_so (λ how. AsksInOrder asks agrees wanted a b how)
      (order_cut asks agrees wanted a b) laws together behind text prepared ended output admitted finished made

  pub order_stop : (T : Type 0) (why : CommandError) (ended : ExitStatus) (output : Output) → FinishesError why ended output
      → AsksInOrder asks agrees wanted a b (course {T = T} (Err why)) → AsksInOrder asks agrees wanted a b (course_of_run ended)
  order_stop T why ended output finished made = stopped_so (λ how. AsksInOrder asks agrees wanted a b how)
      (order_cut asks agrees wanted a b) T why ended output finished made

  pub order_printed : (status : ExitStatus) (text : List ℕ) (ended : ExitStatus) (output : Output) → IsTrue (is_whole status)
      → PrintsText status text ended output → AsksInOrder asks agrees wanted a b Whole
      → AsksInOrder asks agrees wanted a b (course_of_run ended)
  order_printed status text ended output whole printed made =
      printed_so (λ how. AsksInOrder asks agrees wanted a b how) (order_cut asks agrees wanted a b) status text ended output whole printed made

  -- memory ran out before the printing
  pub order_out : (ended : ExitStatus) → ended ≡ OutOfMemory → AsksInOrder asks agrees wanted a b Whole
      → AsksInOrder asks agrees wanted a b (course_of_run ended)
  order_out ended out made = subst (λ own. AsksInOrder asks agrees wanted a b (course_of_run own)) (sym out)
      (order_cut asks agrees wanted a b made)
