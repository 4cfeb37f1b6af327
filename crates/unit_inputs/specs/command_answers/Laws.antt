-- The promises about any command.
use Rattle.std.specs.Prelude.{◌≡◌, ◌⊎◌, ℕ, List, IsTrue, Option, Some, None, Result, Ok, Err}
use Rattle.exec_settings.specs.host_io.Agreeing.{ForFiles}
use Rattle.exec_settings.specs.host_io.Files.{Files}
use Rattle.unit_inputs.specs.command_answers.ExitStatuses.{is_answer, is_whole}
use Rattle.unit_inputs.specs.command_answers.CommandErrors.{first_refusal}
use Rattle.unit_inputs.specs.declared.command_answers.exit_status.ExitStatus.{ExitStatus}
use Rattle.unit_inputs.specs.declared.command_answers.exit_status.ExitStatus.TheVariants as status
use Rattle.unit_inputs.specs.declared.command_answers.error.CommandError.{CommandError}
use Rattle.unit_inputs.specs.declared.command_answers.error.CommandError.TheVariants as stop

-- the texts that the command may print, each with the exit status after it; the statuses that may follow a whole text;
-- whether everything is accepted; and whether the command reads files
pub record Laws : Type 1 where
  pub admits : ExitStatus → List ℕ → Type 0
  pub may_end : ExitStatus → Type 0
  pub accepts : Type 0
  pub reads : Type 0

-- the laws agree: an admitted text has a status that may follow a whole text, and the status is an answer if all is accepted
pub record GoTogether (laws : Laws) : Type 0 where
  pub ends : (status : ExitStatus) (text : List ℕ) → laws.admits status text → laws.may_end status
  pub whole : (status : ExitStatus) → laws.may_end status → IsTrue (is_whole status)
  pub answers : laws.accepts → (status : ExitStatus) → laws.may_end status → IsTrue (is_answer status)

-- a command that prints one text and reads nothing
abbrev pub fixed_laws : ExitStatus → List ℕ → Type 0 → Laws
fixed_laws only line accepted = record {
  admits = λ status text. (status ≡ only) × (text ≡ line);
  may_end = λ status. status ≡ only;
  accepts = accepted;
  reads = ⊥;
}

-- A command that reads files has the refusals of those files, in their order. If they refuse nothing, it has a text to print,
-- with the statuses that may follow.
pub record FileLaws : Type 1 where
  pub refusals : Files → List (Option (List ℕ))
  pub prints : Files → ExitStatus → List ℕ → Type 0
  pub may_end : ExitStatus → Type 0
  pub reads : Type 0

-- the files refuse nothing
abbrev pub AcceptsFiles : FileLaws → Files → Type 0
AcceptsFiles laws files = first_refusal (laws.refusals files) ≡ None

-- the command prints the first refusal, or its text
pub data Admits (laws : FileLaws) (files : Files) : ExitStatus → List ℕ → Type 0 where
  refuses : (line : List ℕ) → first_refusal (laws.refusals files) ≡ Some line → Admits laws files status.Refused line
  prints : (behind : ExitStatus) (text : List ℕ) → AcceptsFiles laws files → laws.may_end behind → laws.prints files behind text
      → Admits laws files behind text

-- the command may end as refused exactly if there is a refusal
abbrev pub MayEnd : FileLaws → Files → ExitStatus → Type 0
MayEnd laws files behind = ((behind ≡ status.Refused) × (AcceptsFiles laws files → ⊥)) ⊎ (AcceptsFiles laws files × laws.may_end behind)

-- the laws of a command over each map of files: the statuses that it may have whatever the files are; the texts that it may print over
-- the files, each with the exit status after it; the statuses that may follow a whole text; whether the files are accepted; and
-- whether the command reads files
pub record LawsByFiles : Type 1 where
  pub may_be : ExitStatus → Type 0
  pub admits : Files → ExitStatus → List ℕ → Type 0
  pub may_end : Files → ExitStatus → Type 0
  pub accepts : Files → Type 0
  pub reads : Type 0

-- the status is one of the command, and this holds of all files that agree with the answers of the shelf
pub record ByAnswers (agrees : Files → Type 0) (any : Type 0) (holds : Files → Type 0) : Type 0 where
  pub whatever_the_files : any
  pub by_the_files : ForFiles agrees holds

-- this holds of some files that agree with the answers of the shelf
pub record OfSomeFiles (agrees holds : Files → Type 0) : Type 0 where
  pub files : Files
  pub agree : agrees files
  pub so : holds files

-- What was read is what is promised: a text is admitted if it is admitted for all files that agree with the answers of the shelf.
abbrev pub over_files : (Files → Type 0) → LawsByFiles → Laws
over_files agrees laws = record {
  admits = λ status text. ByAnswers agrees (laws.may_be status) (λ files. laws.admits files status text);
  may_end = λ status. ByAnswers agrees (laws.may_be status) (λ files. laws.may_end files status);
  accepts = OfSomeFiles agrees laws.accepts;
  reads = laws.reads;
}

abbrev pub laws_by_files : FileLaws → LawsByFiles
laws_by_files laws = record {
  may_be = λ behind. (behind ≡ status.Refused) ⊎ laws.may_end behind;
  admits = λ files behind text. Admits laws files behind text;
  may_end = λ files behind. MayEnd laws files behind;
  accepts = AcceptsFiles laws;
  reads = laws.reads;
}

abbrev pub laws_over : (Files → Type 0) → FileLaws → Laws
laws_over agrees laws = over_files agrees (laws_by_files laws)

-- the prepared text, or the line of the refusal, is admitted
abbrev pub IsAdmitted : {R : Type 0} → Laws → (R → ExitStatus) → (R → List ℕ) → Result R CommandError → Type 0
IsAdmitted laws behind text (Ok ready) = laws.admits (behind ready) (text ready)
IsAdmitted laws behind text (Err (stop.Refused line)) = laws.admits status.Refused line.items
IsAdmitted laws behind text (Err stop.ReadFault) = Unit {0}
IsAdmitted laws behind text (Err stop.Memory) = Unit {0}
