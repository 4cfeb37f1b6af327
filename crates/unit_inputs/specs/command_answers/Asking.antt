-- The calls that read files, and how far a command got through the calls that it needs.
use Rattle.std.specs.Prelude.{ℕ, Option, Some, None, List, [], Result, Ok, Err}
use Rattle.exec_settings.specs.host_io.Calls.{Ask, FileAt, Course, Whole, Faulted, Cut}
use Rattle.unit_inputs.specs.declared.command_answers.exit_status.ExitStatus.{ExitStatus}
use Rattle.unit_inputs.specs.declared.command_answers.exit_status.ExitStatus.TheVariants as status
use Rattle.unit_inputs.specs.declared.command_answers.error.CommandError.{CommandError}
use Rattle.unit_inputs.specs.declared.command_answers.error.CommandError.TheVariants.{Refused, ReadFault, Memory}

-- a file has at most 1 MiB
abbrev pub input_file : List ℕ → Ask
input_file path = FileAt path 1048576

-- the course of a step of preparing with this answer
abbrev pub course : {T : Type 0} → Result T CommandError → Course
course (Ok value) = Whole
course (Err (Refused line)) = Whole
course (Err ReadFault) = Faulted
course (Err Memory) = Cut

-- the course of reading in a run with this status: all is read after a whole text, and after a text that a write cut
abbrev pub course_of_run : ExitStatus → Course
course_of_run status.ReadFault = Faulted
course_of_run status.OutOfMemory = Cut
course_of_run ended = Whole

-- these calls follow if nothing has been refused so far
abbrev pub unless_told : Option (List ℕ) → List Ask → List Ask
unless_told None asks = asks
unless_told (Some line) asks = []
