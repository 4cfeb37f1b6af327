-- The promises about a run of any command.
use Rattle.std.specs.Prelude.{◌≡◌, ◌⊎◌, ℕ, ◌<◌, ◌≤◌, List, IsTrue, Result}
use Rattle.exec_settings.specs.host_io.Causes.{Rose}
use Rattle.exec_settings.specs.host_io.declared.writing.SinkError.{SinkError}
use Rattle.unit_inputs.specs.command_answers.ExitStatuses.{is_answer, is_whole}
use Rattle.unit_inputs.specs.command_answers.Laws.{Laws}
use Rattle.unit_inputs.specs.command_answers.Printing.{IsUntouched, Output, PutsAll, PutsText}
use Rattle.unit_inputs.specs.declared.command_answers.exit_status.ExitStatus.{ExitStatus}
use Rattle.unit_inputs.specs.declared.command_answers.exit_status.ExitStatus.TheVariants.{ReadFault, WriteFault, OutOfMemory}

-- the shelf and the sink of a run
pub record Outside : Type 1 where
  pub shelf_before : ℕ
  pub shelf_after : ℕ
  pub sink : Output

-- the run wrote the whole of an admitted text, each line as one piece
abbrev pub WroteWhole : (List ℕ → Type 0) → Output → Type 0
WroteWhole admits output = (text : List ℕ) × admits text × PutsAll output.taken output.puts output.before output.after text

-- nothing was put; or the run wrote an admitted text of some status, each line as one piece, as a whole or up to an
-- error
abbrev pub WrotePrefix : (ExitStatus → List ℕ → Type 0) → Output → Type 0
WrotePrefix admits output =
    IsUntouched output ⊎
    ((status : ExitStatus) × (text : List ℕ) × (put : Result (Unit {0}) SinkError) × admits status text ×
    PutsText output.taken output.puts output.before output.after text put)

-- after a whole text a run has a status that the command may have, and a failed read only if the command reads files
pub record EndsBy (laws : Laws) (status : ExitStatus) : Type 0 where
  pub whole : IsTrue (is_whole status) → laws.may_end status
  pub failed_read : status ≡ ReadFault → laws.reads

-- the counts do not fall. A read fault needs a risen count of the shelf, and then nothing was put. A write fault needs a risen
-- count of the sink. A risen count gives its fault, so no fault is passed over
pub record HasFaultCause (status : ExitStatus) (outside : Outside) : Type 0 where
  pub shelf_later : outside.shelf_before ≤ outside.shelf_after
  pub sink_later : outside.sink.faults outside.sink.before ≤ outside.sink.faults outside.sink.after
  pub read_fault : status ≡ ReadFault → Rose outside.shelf_before outside.shelf_after
  pub nothing_written : status ≡ ReadFault → IsUntouched outside.sink
  pub write_fault : status ≡ WriteFault → Rose (outside.sink.faults outside.sink.before) (outside.sink.faults outside.sink.after)
  pub shelf_grew : outside.shelf_before < outside.shelf_after → status ≡ ReadFault
  pub sink_grew : outside.sink.faults outside.sink.before < outside.sink.faults outside.sink.after → status ≡ WriteFault

-- if everything is accepted and nothing failed, the run answers, or memory ran out
abbrev pub Completes : Type 0 → ExitStatus → Outside → Type 0
Completes accepted status outside =
    accepted → (Rose outside.shelf_before outside.shelf_after → ⊥) → (Rose (outside.sink.faults outside.sink.before) (outside.sink.faults outside.sink.after) → ⊥)
    → IsTrue (is_answer status) ⊎ (status ≡ OutOfMemory)

-- a command with these laws ran, and this is its status
pub record IsRun (laws : Laws) (status : ExitStatus) (outside : Outside) : Type 0 where
  pub prints_the_whole_text : IsTrue (is_whole status) → WroteWhole (laws.admits status) outside.sink
  pub prints_a_prefix : WrotePrefix laws.admits outside.sink
  pub ends_by_the_inputs : EndsBy laws status
  pub faults_have_causes : HasFaultCause status outside
  pub completes : Completes laws.accepts status outside
