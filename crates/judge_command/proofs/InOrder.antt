-- The calls of a run, by how it ended behind what was read.
use Rattle.std.proofs.Common.{ℕ, List, Result, Ok, Err, refl}
use Rattle.std.specs.Prelude.{IsErrOf, IsTrue}
use Rattle.asked_service.specs.host_io.Calls.{Ask, ShelfCall, Whole}
use Rattle.asked_service.specs.host_io.Files.{Files}
use Rattle.asked_service.specs.unit_inputs.command_answers.Asking.{course_of_run}
use Rattle.asked_service.specs.unit_inputs.command_answers.ExitStatuses.{is_whole}
use Rattle.asked_service.specs.unit_inputs.command_answers.Printing.{Finishes, Output}
use Rattle.asked_service.specs.unit_inputs.declared.command_answers.error.CommandError.{CommandError}
use Rattle.asked_service.specs.unit_inputs.declared.command_answers.error.CommandError.TheVariants as stop
use Rattle.asked_service.specs.unit_inputs.declared.command_answers.exit_status.ExitStatus.{ExitStatus}
use Rattle.asked_service.specs.unit_inputs.declared.settling.SettledUnit.{SettledUnit}
use Rattle.asked_service.specs.unit_inputs.Asking.{AsksInOrder}
use Rattle.asked_service.proofs.OfUnitInputs.Ended.{order_printed, order_stop}
use Rattle.asked_service.proofs.OfUnitInputs.Ordering.{order_quiet}
use Rattle.judge_command.specs.Started.{FinishesStarted, status_of, text_of}
use Rattle.judge_command.specs.declared.launching.Outcome.{Outcome}
use Rattle.judge_command.specs.declared.launching.Outcome.TheVariants as outcome

told_whole : (came : Outcome) → IsTrue (is_whole (status_of came))
told_whole (outcome.Asked asked) = refl
told_whole (outcome.Refused error) = refl

module _ {S : Type 0} (asks : S → ShelfCall → S → Type 0) (agrees : Files → Type 0) (wanted : Files → List Ask) (a b : S) where
  -- what is prepared is launched and printed, or stops
  pub order_started : (unit : List ℕ) (one : SettledUnit) (ended : ExitStatus) (output : Output)
      → FinishesStarted unit one ended output → AsksInOrder asks agrees wanted a b Whole
      → AsksInOrder asks agrees wanted a b (course_of_run ended)
  order_started unit one ended output is made = by is.result is.reads_nothing is.finishes where
    by : (result : Result Outcome CommandError) → (IsErrOf result stop.ReadFault → ⊥)
        → Finishes status_of (text_of unit one) result ended output → AsksInOrder asks agrees wanted a b (course_of_run ended)
    by (Ok came) quiet finishes =
        order_printed asks agrees wanted a b (status_of came) (text_of unit one came) ended output (told_whole came) finishes made
    by (Err why) quiet finishes =
        order_stop asks agrees wanted a b Outcome why ended output finishes (order_quiet asks agrees wanted a b (Err why) quiet made)
