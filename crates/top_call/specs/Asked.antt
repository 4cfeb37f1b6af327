-- The request of a run, and its laws: the words decide first, and then the files.
use Rattle.std.specs.Prelude.{ℕ, List, [], map, Option, Some, None}
use Rattle.derive_command.specs.host_io.Calls.{Ask}
use Rattle.derive_command.specs.host_io.Files.{Files}
use Rattle.score_command.specs.exposure_score.StoredTests.{StoredTests}
use Rattle.tighten_command.specs.tightening.Wishes.{Wishes}
use Rattle.derive_command.specs.unit_inputs.command_answers.Laws.{Laws, fixed_laws, laws_over}
use Rattle.derive_command.specs.unit_inputs.declared.command_answers.exit_status.ExitStatus.{ExitStatus}
use Rattle.derive_command.specs.unit_inputs.declared.command_answers.exit_status.ExitStatus.TheVariants.{Done, NoCommand}
use Rattle.filter_command.specs.Prints.{filter_laws}
use Rattle.derive_command.specs.plan_command.Prints.{plan_laws}
use Rattle.judge_command.specs.Prints.{judge_laws}
use Rattle.replay_command.specs.Prints.{replay_laws}
use Rattle.derive_command.specs.Prints.{derive_laws}
use Rattle.effect_command.specs.Prints.{effect_laws}
use Rattle.tighten_command.specs.Prints.{tighten_laws}
use Rattle.why_command.specs.Prints.{why_laws}
use Rattle.why_command.specs.lines_command.Prints.{lines_laws}
use Rattle.score_command.specs.Prints.{score_laws}
use Rattle.check_command.specs.Prints.{check_laws}
use Rattle.derive_command.specs.unit_inputs.Asking.{asks_with_file, input_asks}
use Rattle.score_command.specs.fleet_command.Asking.{fleet_asks}
use Rattle.score_command.specs.fleet_command.Prints.{fleet_laws}
use Rattle.sample_command.specs.Prints.{sample_laws}
use Rattle.top_call.specs.Requests.{Request, HelpAlone, VersionAlone, FilterOf, PlanOf, JudgeOf, ReplayOf, DeriveOf, EffectOf, TightenOf}
use Rattle.top_call.specs.Requests.{WhyOf, LinesOf, ScoreOf, CheckOf, FleetOf, SampleOf, request_in}
use Rattle.top_call.specs.Texts.{help_text, version_text, words_line}
use denote.Ref.{Bor}

-- the words after the program's name, the files that agree with what the shelf answered in the run, and the tests and wishes that
-- the caller passes in
pub record Asked : Type 1 where
  pub words : List (List ℕ)
  pub agrees : Files → Type 0
  pub stored : StoredTests
  pub wishes : Wishes

abbrev pub asked : List (Bor (List ℕ)) → (Files → Type 0) → StoredTests → Wishes → Asked
asked words agrees stored wishes = record { words = map (λ word. word.now) words; agrees = agrees; stored = stored; wishes = wishes }

-- each request has its laws
abbrev pub laws_for : Request → (Files → Type 0) → StoredTests → Wishes → Laws
laws_for HelpAlone agrees stored wishes = fixed_laws Done help_text (Unit {0})
laws_for VersionAlone agrees stored wishes = fixed_laws Done version_text (Unit {0})
laws_for (FilterOf unit) agrees stored wishes = laws_over agrees (filter_laws unit)
laws_for (PlanOf unit) agrees stored wishes = laws_over agrees (plan_laws unit)
laws_for (JudgeOf unit) agrees stored wishes = laws_over agrees (judge_laws unit)
laws_for (ReplayOf unit script) agrees stored wishes = laws_over agrees (replay_laws unit script)
laws_for (DeriveOf unit script) agrees stored wishes = laws_over agrees (derive_laws unit script)
laws_for (EffectOf unit dropin) agrees stored wishes = laws_over agrees (effect_laws unit dropin)
laws_for (TightenOf unit keep) agrees stored wishes = tighten_laws agrees unit keep wishes
laws_for (WhyOf unit words) agrees stored wishes = laws_over agrees (why_laws unit words)
laws_for (LinesOf unit) agrees stored wishes = laws_over agrees (lines_laws unit)
laws_for (ScoreOf unit policy threshold) agrees stored wishes = laws_over agrees (score_laws unit policy threshold stored)
laws_for (CheckOf unit filter path) agrees stored wishes = check_laws agrees unit filter path
laws_for (FleetOf policy) agrees stored wishes = laws_over agrees (fleet_laws policy stored)
laws_for (SampleOf number) agrees stored wishes = sample_laws number

-- words that are no command are refused whatever the files
abbrev pub laws_by : Option Request → (Files → Type 0) → StoredTests → Wishes → Laws
laws_by None agrees stored wishes = fixed_laws NoCommand words_line ⊥
laws_by (Some request) agrees stored wishes = laws_for request agrees stored wishes

abbrev pub laws_of : Asked → Laws
laws_of asked = laws_by (request_in asked.words) asked.agrees asked.stored asked.wishes

-- the admitted texts, each with the ending after it
abbrev pub Prints : Asked → ExitStatus → List ℕ → Type 0
Prints asked = (laws_of asked).admits

-- all that is asked is accepted
abbrev pub Accepts : Asked → Type 0
Accepts asked = (laws_of asked).accepts

-- files are read for it
abbrev pub ReadsFiles : Asked → Type 0
ReadsFiles asked = (laws_of asked).reads

-- each request makes its calls of the shelf, in order, given the files: for the inputs of a unit, and then for a file if the
-- words name one; or for everything that `fleet` reads
abbrev pub asks_for : Request → StoredTests → Files → List Ask
asks_for HelpAlone stored = λ files. []
asks_for VersionAlone stored = λ files. []
asks_for (FilterOf unit) stored = λ files. input_asks files unit
asks_for (PlanOf unit) stored = λ files. input_asks files unit
asks_for (JudgeOf unit) stored = λ files. input_asks files unit
asks_for (ReplayOf unit script) stored = λ files. asks_with_file files unit script
asks_for (DeriveOf unit script) stored = λ files. asks_with_file files unit script
asks_for (EffectOf unit dropin) stored = λ files. asks_with_file files unit dropin
asks_for (TightenOf unit keep) stored = λ files. asks_with_file files unit keep
asks_for (WhyOf unit words) stored = λ files. input_asks files unit
asks_for (LinesOf unit) stored = λ files. input_asks files unit
asks_for (ScoreOf unit policy threshold) stored = λ files. asks_with_file files unit policy
asks_for (CheckOf unit filter path) stored = λ files. asks_with_file files unit path
asks_for (FleetOf policy) stored = λ files. fleet_asks files policy stored
asks_for (SampleOf number) stored = λ files. []

-- words that are no command ask for none
abbrev pub asks_by : Option Request → StoredTests → Files → List Ask
asks_by None stored = λ files. []
asks_by (Some request) stored = asks_for request stored

abbrev pub asks_of : Asked → Files → List Ask
asks_of asked = asks_by (request_in asked.words) asked.stored
