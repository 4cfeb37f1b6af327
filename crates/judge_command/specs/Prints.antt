-- What `judge` prints, by the files.
use Rattle.std.specs.Prelude.{◌≡◌, ◌⊎◌, ℕ, IsSome, List, Result, Some, Ok, Err}
use Rattle.asked_service.specs.abs_path.Paths.{Path}
use Rattle.asked_service.specs.host_io.Files.{Files}
use Rattle.asked_service.specs.call_table.Table as calls
use Rattle.asked_service.specs.site_table.Table.{Site}
use Rattle.asked_service.specs.unit_inputs.command_answers.Laws.{FileLaws}
use Rattle.asked_service.specs.unit_inputs.declared.command_answers.exit_status.ExitStatus.{ExitStatus}
use Rattle.asked_service.specs.unit_inputs.declared.command_answers.exit_status.ExitStatus.TheVariants.{Done, LaunchRefused}
use Rattle.asked_service.specs.launcher.declared.launched.Launched.{Launched as Service}
use Rattle.asked_service.specs.unit_inputs.Inputs.{Inputs, inputs_of}
use Rattle.asked_service.specs.unit_names.Cutting.{name_of}
use Rattle.asked_service.specs.launching.Refusals.{launch_line}
use Rattle.asked_service.specs.launching.Told.{told_of}
use Rattle.asked_service.specs.launcher.declared.error.LaunchError.{LaunchError}
use Rattle.asked_service.specs.launching.Starting.{StartsAs, settings_of}
use Rattle.asked_service.specs.plan_command.Prints.{plan_refusals}
use Rattle.asked_service.specs.Answers.{Answer, AreAnswers}
use Rattle.asked_service.specs.Folders.{AreBlind}
use Rattle.judge_command.specs.Report.{report_text, service_text}

-- the text for a launched service. It has one correct answer per question, in order, and exactly the blind folders of the site,
-- in byte order
pub record TellsService (table : calls.Table) (site : Site) (service : Service) (text : List ℕ) : Type 0 where
  pub answers : List Answer
  pub are_answers : AreAnswers table site service.world answers
  pub folders : List Path
  pub are_blind : AreBlind service.world site folders
  pub is_its_text : text ≡ service_text table site (told_of service.world service.steps) answers folders

-- the same, or the line of a refused launch, with the ending after either
abbrev pub TellsLaunch : calls.Table → Site → Result Service LaunchError → ExitStatus → List ℕ → Type 0
TellsLaunch table site (Ok service) status text = (status ≡ Done) × TellsService table site service text
TellsLaunch table site (Err error) status text = (status ≡ LaunchRefused) × (text ≡ launch_line error)

-- the report on a unit: the unit is launched with its inputs, its settings and the plan of its mounts. The text has the unit
-- and the notes, then the result of the launch
pub record PrintsReport (files : Files) (unit : List ℕ) (status : ExitStatus) (text : List ℕ) : Type 0 where
  pub inputs : Inputs
  pub inputs_are : inputs_of files unit ≡ Some inputs
  pub launch : Result Service LaunchError
  pub starts : StartsAs inputs launch
  pub told : List ℕ
  pub tells : TellsLaunch inputs.calls inputs.site launch status told
  pub is_its_text : text ≡ report_text unit inputs.unit.files (settings_of inputs launch starts).notes.items told

-- the refusals of `plan`; the line of a refused launch follows the notes, with status 7
abbrev pub judge_laws : List ℕ → FileLaws
judge_laws unit = record {
  refusals = λ files. plan_refusals files unit;
  prints = λ files status text. PrintsReport files unit status text;
  may_end = λ status. (status ≡ Done) ⊎ (status ≡ LaunchRefused);
  reads = IsSome (name_of unit);
}
