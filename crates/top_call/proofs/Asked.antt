-- The calls of requests that read nothing.
use Rattle.std.proofs.Common.{◌≡◌, [], Ok, refl, subst, sym}
use Rattle.std.specs.Prelude.{IsTrue}
use Rattle.derive_command.specs.host_io.Calls.{ShelfCall, Whole}
use Rattle.derive_command.specs.host_io.Files.{Files}
use Rattle.derive_command.specs.unit_inputs.command_answers.Asking.{course_of_run}
use Rattle.derive_command.specs.unit_inputs.command_answers.ExitStatuses.{is_whole}
use Rattle.derive_command.specs.unit_inputs.command_answers.Printing.{Finishes, Output}
use Rattle.derive_command.specs.unit_inputs.declared.command_answers.exit_status.ExitStatus.{ExitStatus}
use Rattle.derive_command.specs.unit_inputs.Asking.{AsksInOrder}
use Rattle.derive_command.proofs.OfUnitInputs.Ended.{order_printed}
use Rattle.derive_command.proofs.OfUnitInputs.Ordering.{asked_so}
use Rattle.top_call.specs.Texts.{status_of, text_of}
use Rattle.top_call.specs.declared.texts.Fixed.{Fixed}

module _ {S : Type 0} (asks : S → ShelfCall → S → Type 0) (agrees : Files → Type 0) where
  -- a text that is printed as it stands
  pub asked_fixed : (a : S) (fixed : Fixed) (only : ExitStatus) (ended : ExitStatus) (output : Output) → IsTrue (is_whole only)
      → fixed.status ≡ only → Finishes {R = Fixed} status_of text_of (Ok fixed) ended output
      → AsksInOrder asks agrees (λ files. []) a a (course_of_run ended)
  asked_fixed a fixed only ended output whole ends finished =
      order_printed asks agrees (λ files. []) a a (status_of fixed) (text_of fixed) ended output
      (subst (λ own. IsTrue (is_whole own)) (sym ends) whole) finished
      (asked_so asks agrees [] a a Whole refl)
