-- A text that is ready as a whole.
use Rattle.std.specs.Prelude.{ℕ, List, Result, Ok, Err}
use Rattle.unit_inputs.specs.declared.command_answers.exit_status.ExitStatus.{ExitStatus}
use Rattle.unit_inputs.specs.declared.command_answers.ready_text.ReadyText.{ReadyText}
use Rattle.unit_inputs.specs.declared.command_answers.error.CommandError.{CommandError}
use Rattle.unit_inputs.specs.declared.command_answers.error.CommandError.TheVariants as stop

-- the text to print
abbrev pub text_of : ReadyText → List ℕ
text_of ready = ready.text.items

-- the exit status after the text
abbrev pub status_of : ReadyText → ExitStatus
status_of ready = ready.status

-- the ready text and its status have this property, or memory ran out
abbrev pub IsReadyWith : (ExitStatus → List ℕ → Type 0) → Result ReadyText CommandError → Type 0
IsReadyWith P (Ok ready) = P ready.status ready.text.items
IsReadyWith P (Err (stop.Refused line)) = ⊥
IsReadyWith P (Err stop.ReadFault) = ⊥
IsReadyWith P (Err stop.Memory) = Unit {0}
