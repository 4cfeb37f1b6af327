-- What the program does with its arguments.
use Rattle.std.specs.Prelude.{◌≡◌, ◌⊎◌, ℕ, List, [], drop, map, string_bytes, Result, Ok, Err, String, Vec}
use Rattle.std.specs.Process.{exit_status}
use Rattle.std.specs.declared.alloc.Global.{Global}
use Rattle.std.specs.declared.process.ExitCode.{ExitCode}
use Rattle.top_call.specs.host_io.Calls.{ShelfCall}
use Rattle.top_call.specs.host_io.Files.{Files}
use Rattle.top_call.specs.exposure_score.StoredTests.{StoredTests}
use Rattle.top_call.specs.tighten_command.tightening.Wishes.{Wishes}
use Rattle.top_call.specs.unit_inputs.command_answers.ExitStatuses.{code_of}
use Rattle.top_call.specs.unit_inputs.command_answers.Runs.{Outside}
use Rattle.top_call.specs.unit_inputs.declared.command_answers.exit_status.ExitStatus.{ExitStatus}
use Rattle.top_call.specs.unit_inputs.declared.command_answers.exit_status.ExitStatus.TheVariants.{OutOfMemory}
use Rattle.top_call.specs.Asked.{Asked}
use Rattle.top_call.specs.Promise.{DoesWhatIsAsked}

-- the words after the program's name, in their order; none if the arguments cannot be read
abbrev pub words_behind : {E : Type 0} → Result (Vec (String Global) Global) E → List (List ℕ)
words_behind (Ok all) = map string_bytes (drop 1 all.items)
words_behind (Err error) = []

-- the request of a run: these words, over the files that agree with what the shelf answered, with these tests and wishes
abbrev pub asked_by : List (List ℕ) → (Files → Type 0) → StoredTests → Wishes → Asked
asked_by words agrees stored wishes = record { words = words; agrees = agrees; stored = stored; wishes = wishes }

-- the run does what the words ask; or there was not even memory for the words, and nothing was read or written
abbrev pub EndsWords : {S K : Type 0} → (S → ShelfCall → S → Type 0) → Asked → Outside → S → S → K → K → ExitStatus → Type 0
EndsWords asks asked outside shelf_before shelf_after sink_before sink_after status =
    DoesWhatIsAsked asks asked outside shelf_before shelf_after status ⊎
    ((status ≡ OutOfMemory) × (shelf_after ≡ shelf_before) × (sink_after ≡ sink_before))

-- the exit status belongs to such an ending
abbrev pub ExitsBy : (ExitStatus → Type 0) → ExitCode → Type 0
ExitsBy Ends code = (status : ExitStatus) × Ends status × (exit_status code ≡ code_of status)

-- the exit status belongs to some ending
abbrev pub IsExit : ExitCode → Type 0
IsExit code = ExitsBy (λ status. Unit {0}) code

-- the exit status that was made, or the status for lack of memory
abbrev pub ExitsUnlessMemory : {E : Type 0} → Result ExitCode E → ExitCode → Type 0
ExitsUnlessMemory (Ok made) code = code ≡ made
ExitsUnlessMemory (Err error) code = exit_status code ≡ code_of OutOfMemory
