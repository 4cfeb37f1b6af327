-- The promise of a run: it does what the words ask, or its status says why not.
use Rattle.std.specs.Prelude.{◌≡◌, IsTrue}
use Rattle.derive_command.specs.host_io.Calls.{ShelfCall}
use Rattle.derive_command.specs.unit_inputs.command_answers.Asking.{course_of_run}
use Rattle.derive_command.specs.unit_inputs.command_answers.ExitStatuses.{is_whole}
use Rattle.derive_command.specs.unit_inputs.command_answers.Runs.{Completes, EndsBy, HasFaultCause, Outside, WrotePrefix, WroteWhole}
use Rattle.derive_command.specs.unit_inputs.declared.command_answers.exit_status.ExitStatus.{ExitStatus}
use Rattle.derive_command.specs.unit_inputs.Asking.{AsksInOrder}
use Rattle.top_call.specs.Asked.{Accepts, Asked, Prints, ReadsFiles, asks_of, laws_of}

-- A run of this request, with the shelf and the sink around it, that ended with this status.
-- What was read is what is promised: a text is admitted if it is admitted for all files that agree with what the shelf answered in
-- this run.
-- If the status means a whole text, the sink took an admitted text, and received each of its lines, with the line feed, as one
-- piece. With any status it received nothing; or it took a prefix of an admitted text, and received the lines of that, each as one
-- piece, up to where the run stopped.
-- The inputs decide how the run ends, no fault occurs without its cause, and accepted inputs without a fault are answered. The
-- shelf receives the calls that the files require, in order, and none if the request reads no files.
pub record DoesWhatIsAsked {S : Type 0} (asks : S → ShelfCall → S → Type 0) (asked : Asked) (outside : Outside) (before after : S) (status : ExitStatus) : Type 0 where
  pub prints_the_whole_text : IsTrue (is_whole status) → WroteWhole (Prints asked status) outside.sink
  pub prints_a_prefix : WrotePrefix (Prints asked) outside.sink
  pub ends_by_the_inputs : EndsBy (laws_of asked) status
  pub faults_have_causes : HasFaultCause status outside
  pub completes : Completes (Accepts asked) status outside
  pub reads_in_order : AsksInOrder asks asked.agrees (asks_of asked) before after (course_of_run status)
  pub reads_only_for_a_command : (ReadsFiles asked → ⊥) → after ≡ before
