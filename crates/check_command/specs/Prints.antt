-- What `check` prints, by the files.
use Rattle.std.specs.Prelude.{◌≡◌, ◌⊎◌, ℕ, IsSome, List, Ok, Err}
use Rattle.unit_inputs.specs.host_io.Files.{Files}
use Rattle.unit_inputs.specs.command_answers.Laws.{Laws, LawsByFiles, over_files}
use Rattle.unit_inputs.specs.declared.command_answers.exit_status.ExitStatus.{ExitStatus}
use Rattle.unit_inputs.specs.declared.command_answers.exit_status.ExitStatus.TheVariants.{Done, Refused, Differs}
use Rattle.filter_check.specs.declared.outcome.Outcome.{Outcome}
use Rattle.unit_inputs.specs.unit_names.Cutting.{name_of}
use Rattle.check_command.specs.Answers.{Answers}
use Rattle.check_command.specs.Lines.{status_by, outcome_text}

-- the run prints the line of the refusal, or the text of the outcome, with status 8 if the two differ
pub data Admits (files : Files) (unit name path : List ℕ) : ExitStatus → List ℕ → Type 0 where
  refuses : (line : List ℕ) → Answers files unit name path (Err line) → Admits files unit name path Refused line
  tells : (outcome : Outcome) → Answers files unit name path (Ok outcome)
      → Admits files unit name path (status_by outcome) (outcome_text outcome)

-- the statuses of the command, whatever the files are
abbrev pub MayBe : ExitStatus → Type 0
MayBe status = (status ≡ Refused) ⊎ ((status ≡ Done) ⊎ (status ≡ Differs))

-- a run may end like this if and only if a text with this ending is admitted, and everything is accepted if nothing is refused
abbrev pub check_by_files : List ℕ → List ℕ → List ℕ → LawsByFiles
check_by_files unit name path = record {
  may_be = MayBe;
  admits = λ files status text. Admits files unit name path status text;
  may_end = λ files status. (text : List ℕ) × Admits files unit name path status text;
  accepts = λ files. (outcome : Outcome) × Answers files unit name path (Ok outcome);
  reads = IsSome (name_of unit);
}

abbrev pub check_laws : (Files → Type 0) → List ℕ → List ℕ → List ℕ → Laws
check_laws agrees unit name path = over_files agrees (check_by_files unit name path)
