-- A run prints its text line by line, and then ends with a status.
use Rattle.std.specs.Prelude.{◌≡◌, ◌⊎◌, ℕ, List, ◌++◌, ◌≤◌, IsErrOf, Option, Result, Ok, Err}
use Rattle.exec_settings.specs.host_io.Causes.{Rose, StaysUnless}
use Rattle.exec_settings.specs.host_io.Puts.{Put}
use Rattle.exec_settings.specs.host_io.Writing.{Grew}
use Rattle.exec_settings.specs.host_io.declared.writing.SinkError.{SinkError}
use Rattle.exec_settings.specs.host_io.declared.writing.SinkError.TheVariants as sink
use Rattle.unit_inputs.specs.command_answers.Lines.{HandsLast, HandsLines, HandsSome, HandsText}
use Rattle.unit_inputs.specs.declared.command_answers.exit_status.ExitStatus.{ExitStatus}
use Rattle.unit_inputs.specs.declared.command_answers.exit_status.ExitStatus.TheVariants.{Refused, ReadFault, WriteFault, OutOfMemory}
use Rattle.unit_inputs.specs.declared.command_answers.error.CommandError.{CommandError}
use Rattle.unit_inputs.specs.declared.command_answers.error.CommandError.TheVariants as stop

-- the sink took a front of the text, and nothing else
abbrev pub TakesFront : Option (List ℕ) → Option (List ℕ) → List ℕ → Type 0
TakesFront old new text = (front rest : List ℕ) × (front ++ rest ≡ text) × Grew old new front

module _ {S : Type 0} (taken : S → Option (List ℕ)) (puts : S → Put → S → Type 0) (before now : S) (text : List ℕ) where
  -- a text of whole lines was printed: the sink took it, with each line as one piece
  pub record PrintsAll : Type 0 where
    pub takes : Grew (taken before) (taken now) text
    pub hands : HandsLines puts before now text

  -- a front of the text was printed, line by line, up to an error
  pub record PrintsSome (error : SinkError) : Type 0 where
    pub takes : TakesFront (taken before) (taken now) text
    pub hands : HandsSome puts before now text error

  -- a text of whole lines was printed with this result
  abbrev pub PrintsLines : Result (Unit {0}) SinkError → Type 0
  PrintsLines (Ok u) = PrintsAll
  PrintsLines (Err error) = PrintsSome error

  -- a text was put: the sink took it, with each line and the unended last line as one piece
  pub record PutsAll : Type 0 where
    pub takes : Grew (taken before) (taken now) text
    pub hands : HandsText puts before now text

  -- a front of the text was put, line by line, up to an error
  pub record PutsSome (error : SinkError) : Type 0 where
    pub takes : TakesFront (taken before) (taken now) text
    pub hands : HandsSome puts before now text error ⊎ HandsLast puts before now text error

  -- a text was put with this result
  abbrev pub PutsText : Result (Unit {0}) SinkError → Type 0
  PutsText (Ok u) = PutsAll
  PutsText (Err error) = PutsSome error

-- the count of the sink does not fall; it rises with a fault, and with nothing else
pub record HasWriteCause (before now : ℕ) (result : Result (Unit {0}) SinkError) : Type 0 where
  pub later : before ≤ now
  pub failed : IsErrOf result sink.Failed → Rose before now
  pub no_other_fault : StaysUnless sink.Failed before now result

-- the status of a run that printed its text with this result
abbrev pub status_of_put : Result (Unit {0}) SinkError → ExitStatus → ExitStatus
status_of_put (Ok u) status = status
status_of_put (Err sink.Failed) status = WriteFault
status_of_put (Err sink.Memory) status = OutOfMemory

-- the sink of a run, with its meanings: the count of its faults, the bytes that it took, and its state after a put
pub record Output : Type 1 where
  pub State : Type 0
  pub faults : State → ℕ
  pub taken : State → Option (List ℕ)
  pub puts : State → Put → State → Type 0
  pub before : State
  pub after : State

abbrev pub output_of : {K : Type 0} → (K → ℕ) → (K → Option (List ℕ)) → (K → Put → K → Type 0) → K → K → Output
output_of {K} faults taken puts before after =
    record { State = K; faults = faults; taken = taken; puts = puts; before = before; after = after }

-- nothing was put
abbrev pub IsUntouched : Output → Type 0
IsUntouched output = output.after ≡ output.before

-- a text was printed, and its printing gave the status of the run
pub record PrintsText (status : ExitStatus) (text : List ℕ) (ended : ExitStatus) (output : Output) : Type 0 where
  pub put : Result (Unit {0}) SinkError
  pub puts_the_text : PutsText output.taken output.puts output.before output.after text put
  pub cause : HasWriteCause (output.faults output.before) (output.faults output.after) put
  pub ends : ended ≡ status_of_put put status

-- the run prints the line of a refusal; an error without a line prints nothing
abbrev pub FinishesError : CommandError → ExitStatus → Output → Type 0
FinishesError (stop.Refused line) ended output = PrintsText Refused line.items ended output
FinishesError stop.ReadFault ended output = (ended ≡ ReadFault) × IsUntouched output
FinishesError stop.Memory ended output = (ended ≡ OutOfMemory) × IsUntouched output

-- the run prints the prepared text, or the error that stopped the command
abbrev pub Finishes : {R : Type 0} → (R → ExitStatus) → (R → List ℕ) → Result R CommandError → ExitStatus → Output → Type 0
Finishes behind text (Ok ready) ended output = PrintsText (behind ready) (text ready) ended output
Finishes behind text (Err why) ended output = FinishesError why ended output
