-- The outcome of a comparison, ready to be printed.
use Rattle.std.specs.Prelude.{ℕ, List}
use Rattle.unit_inputs.specs.declared.command_answers.exit_status.ExitStatus.{ExitStatus}
use Rattle.check_command.specs.Lines.{status_by, outcome_text}
use Rattle.check_command.specs.declared.ready.Checked.{Checked}

abbrev pub checked_text : Checked → List ℕ
checked_text checked = outcome_text checked.outcome

abbrev pub status_of : Checked → ExitStatus
status_of checked = status_by checked.outcome
