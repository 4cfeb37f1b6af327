-- A text is ready as a whole, or an error takes its place.
use Rattle.std.proofs.Common.{ℕ, List, Result, Ok, Err}
use Rattle.std.specs.Prelude.{IsErrOf}
use Rattle.unit_inputs.specs.command_answers.ReadyTexts.{IsReadyWith}
use Rattle.unit_inputs.specs.declared.command_answers.exit_status.ExitStatus.{ExitStatus}
use Rattle.unit_inputs.specs.declared.command_answers.ready_text.ReadyText.{ReadyText}
use Rattle.unit_inputs.specs.declared.command_answers.error.CommandError.{CommandError}
use Rattle.unit_inputs.specs.declared.command_answers.error.CommandError.TheVariants as stop

pub ready_reads_nothing : (P : ExitStatus → List ℕ → Type 0) (result : Result ReadyText CommandError) → IsReadyWith P result
    → IsErrOf result stop.ReadFault → ⊥
ready_reads_nothing P (Ok made) ready e = cc
ready_reads_nothing P (Err (stop.Refused line)) ready e = cc
ready_reads_nothing P (Err stop.ReadFault) ready e = absurd ready
ready_reads_nothing P (Err stop.Memory) ready e = cc
