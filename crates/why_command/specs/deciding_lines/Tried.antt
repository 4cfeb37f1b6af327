-- A unit without some of its assignments in force, asked one question.
use Rattle.std.specs.Prelude.{◌≡◌, ◌≢◌, ℕ, Bool, true, false, List, Ok, Contains}
use Rattle.asked_service.specs.kernel_laws.Denied.{IsDenied}
use Rattle.asked_service.specs.kernel_laws.Questions.{questions}
use Rattle.asked_service.specs.kernel_model.World.{World}
use Rattle.asked_service.specs.kernel_ways.Laws.{IsShown}
use Rattle.asked_service.specs.launcher.declared.launched.Launched.{Launched as Service}
use Rattle.asked_service.specs.kernel_laws.declared.question_types.question.Question.{Question}
use Rattle.asked_service.specs.launching.Starting.{StartsAs, given}
use Rattle.asked_service.specs.unit_inputs.Inputs.{Inputs}
use Rattle.asked_service.specs.declared.launching.refusal.Refusal.{Refusal}
use Rattle.asked_service.specs.declared.launching.refusal.Refusal.TheVariants.{Memory}
use Rattle.asked_service.specs.launching.Launched as launching
use Rattle.asked_service.specs.launching.Refusals.{refusal_line}
use Rattle.why_command.specs.deciding_lines.unit_lines.Without.{without}
use Rattle.asked_service.specs.dropin_merge.declared.unit_values.value.Place.{Place}
use Rattle.why_command.specs.declared.deciding_lines.starting.Started.{Started}
use Rattle.why_command.specs.declared.deciding_lines.starting.Started.TheVariants as started
use Rattle.why_command.specs.declared.deciding_lines.trial.Trial.{Trial}

-- a unit by its name, with the tables and the question
pub record Tried : Type 0 where
  pub name : List ℕ
  pub inputs : Inputs
  pub question : Question

abbrev pub tried_of : Trial → Tried
tried_of trial = record { name = trial.name.now; inputs = given trial.unit.now trial.calls.now trial.site.now; question = trial.question }

-- the question is in the list of the tables' questions
abbrev pub CanBeTried : Trial → Type 0
CanBeTried trial = Contains (questions trial.calls.now trial.site.now) trial.question

-- the same tables, and the unit without the assignments in force at these places
abbrev pub inputs_without : Inputs → List Place → Inputs
inputs_without inputs places = given (without places inputs.unit) inputs.calls inputs.site

-- the line of a unit that has no settings, no plan of mounts or no launch
pub data IsNotLaunched (name : List ℕ) (inputs : Inputs) : List ℕ → Type 0 where
  is_refused : (refusal : Refusal) → refusal ≢ Memory → launching.IsNotLaunched inputs.unit inputs.calls inputs.site refusal
      → IsNotLaunched name inputs (refusal_line name refusal)

-- what a unit starts as: its service, or the line of what is refused
abbrev pub IsStarted : List ℕ → Inputs → Started → Type 0
IsStarted name inputs (started.Launched service) = StartsAs inputs (Ok service)
IsStarted name inputs (started.Refused line) = IsNotLaunched name inputs line.items

-- it is refused, with this line
abbrev pub IsRefusedWith : List ℕ → Started → Type 0
IsRefusedWith line (started.Launched service) = ⊥
IsRefusedWith line (started.Refused told) = told.items ≡ line

-- the unit has settings, a plan of its mounts and a launch, and some list of calls shows the question
pub record IsOpenFor (inputs : Inputs) (question : Question) : Type 0 where
  pub service : Service
  pub starts : StartsAs inputs (Ok service)
  pub shown : IsShown service.world question

-- it has them, and no list of calls of its service reaches the question
pub record IsDeniedFor (inputs : Inputs) (question : Question) : Type 0 where
  pub service : Service
  pub starts : StartsAs inputs (Ok service)
  pub denied : IsDenied service.world question

-- it is denied; or the launch of the unit is refused, or a setting or a path of it
pub data IsShutFor (name : List ℕ) (inputs : Inputs) (question : Question) : Type 0 where
  denied : IsDeniedFor inputs question → IsShutFor name inputs question
  refused : (line : List ℕ) → IsNotLaunched name inputs line → IsShutFor name inputs question

-- without the assignments in force at these places
abbrev pub StartsWithout : Tried → List Place → Started → Type 0
StartsWithout tried places start = IsStarted tried.name (inputs_without tried.inputs places) start

abbrev pub IsOpenWithout : Tried → List Place → Type 0
IsOpenWithout tried places = IsOpenFor (inputs_without tried.inputs places) tried.question

abbrev pub IsDeniedWithout : Tried → List Place → Type 0
IsDeniedWithout tried places = IsDeniedFor (inputs_without tried.inputs places) tried.question

abbrev pub IsShutWithout : Tried → List Place → Type 0
IsShutWithout tried places = IsShutFor tried.name (inputs_without tried.inputs places) tried.question

-- the verdict on a set of lines and on a service
abbrev pub TellsOpen : Tried → List Place → Bool → Type 0
TellsOpen tried places true = IsOpenWithout tried places
TellsOpen tried places false = IsShutWithout tried places

abbrev pub IsSaid : World → Question → Bool → Type 0
IsSaid world question true = IsShown world question
IsSaid world question false = IsDenied world question
