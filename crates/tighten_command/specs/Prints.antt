-- What `tighten` prints, by the files.
use Rattle.std.specs.Prelude.{◌≡◌, ◌⊎◌, ℕ, IsSome, List, Some, Ok, Err}
use Rattle.asked_service.specs.host_io.Files.{Files}
use Rattle.asked_service.specs.unit_inputs.command_answers.Laws.{Laws, LawsByFiles, over_files}
use Rattle.asked_service.specs.unit_inputs.command_answers.CommandErrors.{first_refusal}
use Rattle.asked_service.specs.unit_inputs.declared.command_answers.exit_status.ExitStatus.{ExitStatus}
use Rattle.asked_service.specs.unit_inputs.declared.command_answers.exit_status.ExitStatus.TheVariants.{Done, LaunchRefused, Refused}
use Rattle.asked_service.specs.kernel_laws.declared.question_types.question.Question.{Question}
use Rattle.tighten_command.specs.tightening.Tried.{tried_with}
use Rattle.tighten_command.specs.tightening.Wishes.{Wishes}
use Rattle.asked_service.specs.unit_inputs.Inputs.{Inputs, input_refusals, inputs_of}
use Rattle.asked_service.specs.unit_names.Cutting.{name_of}
use Rattle.tighten_command.specs.KeepFiles.{IsKeepIn}
use Rattle.tighten_command.specs.Telling.{TellsTight}

-- what is refused before anything is tried, the first that is: an input of the unit, then what is to be kept
pub data RefusesBefore (files : Files) (unit path : List ℕ) : List ℕ → Type 0 where
  an_input : (line : List ℕ) → first_refusal (input_refusals files unit) ≡ Some line → RefusesBefore files unit path line
  the_keep : (line : List ℕ) (inputs : Inputs) → inputs_of files unit ≡ Some inputs
      → IsKeepIn files inputs.calls inputs.site path (Err line) → RefusesBefore files unit path line

-- the run prints the line of the refusal, or the text for the unit, with these questions to be kept
pub data Admits (files : Files) (unit path : List ℕ) (wishes : Wishes) : ExitStatus → List ℕ → Type 0 where
  refuses : (line : List ℕ) → RefusesBefore files unit path line → Admits files unit path wishes Refused line
  tells : (inputs : Inputs) (keep : List Question) → inputs_of files unit ≡ Some inputs
      → IsKeepIn files inputs.calls inputs.site path (Ok keep)
      → (status : ExitStatus) (text : List ℕ) → TellsTight unit (tried_with inputs.unit inputs.calls inputs.site keep wishes) status text
      → Admits files unit path wishes status text

-- the statuses of the command, whatever the files are
abbrev pub MayBe : ExitStatus → Type 0
MayBe status = (status ≡ Refused) ⊎ ((status ≡ Done) ⊎ (status ≡ LaunchRefused))

-- a run may end like this if and only if a text with this ending is admitted, and everything is accepted if nothing is refused,
-- whatever a wish may answer
abbrev pub tighten_by_files : List ℕ → List ℕ → Wishes → LawsByFiles
tighten_by_files unit path wishes = record {
  may_be = MayBe;
  admits = λ files status text. Admits files unit path wishes status text;
  may_end = λ files status. (text : List ℕ) × Admits files unit path wishes status text;
  accepts = λ files. (line : List ℕ) → Admits files unit path wishes Refused line → ⊥;
  reads = IsSome (name_of unit);
}

abbrev pub tighten_laws : (Files → Type 0) → List ℕ → List ℕ → Wishes → Laws
tighten_laws agrees unit path wishes = over_files agrees (tighten_by_files unit path wishes)
