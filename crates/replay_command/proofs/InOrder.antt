-- The calls of a run, by how it ended behind what was read.
use Rattle.std.proofs.Common.{ℕ, List, Result, Ok, Err, refl}
use Rattle.std.specs.Prelude.{IsErrOf, IsTrue}
use Rattle.asked_service.specs.host_io.Calls.{Ask, ShelfCall, Whole}
use Rattle.asked_service.specs.host_io.Files.{Files}
use Rattle.asked_service.specs.launcher.declared.error.LaunchError.{LaunchError}
use Rattle.asked_service.specs.launcher.declared.launched.Launched.{Launched as Service}
use Rattle.asked_service.specs.unit_inputs.command_answers.Asking.{course_of_run}
use Rattle.asked_service.specs.unit_inputs.command_answers.ExitStatuses.{is_whole}
use Rattle.asked_service.specs.unit_inputs.command_answers.Printing.{Finishes, Output}
use Rattle.asked_service.specs.unit_inputs.declared.command_answers.error.CommandError.{CommandError}
use Rattle.asked_service.specs.unit_inputs.declared.command_answers.error.CommandError.TheVariants as stop
use Rattle.asked_service.specs.unit_inputs.declared.command_answers.exit_status.ExitStatus.{ExitStatus}
use Rattle.asked_service.specs.unit_inputs.Asking.{AsksInOrder}
use Rattle.asked_service.proofs.OfUnitInputs.Ended.{order_printed, order_stop}
use Rattle.asked_service.proofs.OfUnitInputs.Ordering.{order_quiet}
use Rattle.replay_command.specs.Started.{FinishesStarted, status_of, text_of}
use Rattle.replay_command.specs.Texts.{status_behind}
use Rattle.replay_command.specs.declared.preparing.Prepared.{Prepared}
use Rattle.replay_command.specs.declared.ready.Replay.{Replay}

told_whole : (launch : Result Service LaunchError) → IsTrue (is_whole (status_behind launch))
told_whole (Ok service) = refl
told_whole (Err error) = refl

module _ {S : Type 0} (asks : S → ShelfCall → S → Type 0) (agrees : Files → Type 0) (wanted : Files → List Ask) (a b : S) where
  -- what is prepared is launched and printed, or stops
  pub order_started : (unit : List ℕ) (prepared : Prepared) (ended : ExitStatus) (output : Output)
      → FinishesStarted unit prepared ended output → AsksInOrder asks agrees wanted a b Whole
      → AsksInOrder asks agrees wanted a b (course_of_run ended)
  order_started unit prepared ended output is made = by is.result is.reads_nothing is.finishes where
    by : (result : Result Replay CommandError) → (IsErrOf result stop.ReadFault → ⊥) → Finishes status_of text_of result ended output
        → AsksInOrder asks agrees wanted a b (course_of_run ended)
    by (Ok replay) quiet finishes =
        order_printed asks agrees wanted a b (status_of replay) (text_of replay) ended output (told_whole replay.launch) finishes made
    by (Err why) quiet finishes =
        order_stop asks agrees wanted a b Replay why ended output finishes (order_quiet asks agrees wanted a b (Err why) quiet made)
