-- The table of exit statuses, and their properties.
use Rattle.std.specs.Prelude.{ℕ, Bool, true, false}
use Rattle.unit_inputs.specs.declared.command_answers.exit_status.ExitStatus.{ExitStatus}
use Rattle.unit_inputs.specs.declared.command_answers.exit_status.ExitStatus.TheVariants.{Done, AboveThreshold, NoCommand, Refused, ReadFault}
use Rattle.unit_inputs.specs.declared.command_answers.exit_status.ExitStatus.TheVariants.{WriteFault, OutOfMemory, LaunchRefused, Differs}

-- the exit status as a number
abbrev pub code_of : ExitStatus → ℕ
code_of Done = 0
code_of AboveThreshold = 1
code_of NoCommand = 2
code_of Refused = 3
code_of ReadFault = 4
code_of WriteFault = 5
code_of OutOfMemory = 6
code_of LaunchRefused = 7
code_of Differs = 8

-- the run printed its whole text
abbrev pub is_whole : ExitStatus → Bool
is_whole ReadFault = false
is_whole WriteFault = false
is_whole OutOfMemory = false
is_whole status = true

-- the question is answered: nothing is refused except a launch, and nothing failed
abbrev pub is_answer : ExitStatus → Bool
is_answer Done = true
is_answer AboveThreshold = true
is_answer LaunchRefused = true
is_answer Differs = true
is_answer status = false
