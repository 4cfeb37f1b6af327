-- The endings of the numbers of the table of statuses.
use Rattle.std.specs.Prelude.{ℕ, ◌==◌, cond}
use Rattle.derive_command.specs.unit_inputs.declared.command_answers.exit_status.ExitStatus.{ExitStatus}
use Rattle.derive_command.specs.unit_inputs.declared.command_answers.exit_status.ExitStatus.TheVariants.{Done, AboveThreshold, NoCommand, Refused}
use Rattle.derive_command.specs.unit_inputs.declared.command_answers.exit_status.ExitStatus.TheVariants.{ReadFault, WriteFault, OutOfMemory}
use Rattle.derive_command.specs.unit_inputs.declared.command_answers.exit_status.ExitStatus.TheVariants.{LaunchRefused, Differs}

-- the ending of a number of the table
abbrev pub status_of : ℕ → ExitStatus
status_of code =
    cond (code == 0) Done
    (cond (code == 1) AboveThreshold
    (cond (code == 2) NoCommand
    (cond (code == 3) Refused
    (cond (code == 4) ReadFault
    (cond (code == 5) WriteFault
    (cond (code == 6) OutOfMemory
    (cond (code == 7) LaunchRefused Differs)))))))
