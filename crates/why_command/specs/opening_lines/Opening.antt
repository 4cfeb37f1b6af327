-- What an assignment in force of a unit denies by itself.
use Rattle.std.specs.Prelude.{◌≡◌, ℕ, List, [], ◌∷◌, Ok, map}
use Rattle.std.specs.List.{All}
use Rattle.why_command.specs.deciding_lines.Tried.{IsNotLaunched, inputs_without}
use Rattle.asked_service.specs.kernel_laws.Denied.{IsDenied}
use Rattle.asked_service.specs.kernel_laws.Questions.{questions}
use Rattle.asked_service.specs.kernel_model.World.{World}
use Rattle.asked_service.specs.launcher.declared.launched.Launched.{Launched as Service}
use Rattle.asked_service.specs.kernel_laws.declared.question_types.question.Question.{Question}
use Rattle.asked_service.specs.launching.Starting.{StartsAs}
use Rattle.asked_service.specs.unit_inputs.Inputs.{Inputs}
use Rattle.why_command.specs.deciding_lines.unit_lines.Lines.{lines_of}
use Rattle.asked_service.specs.dropin_merge.declared.unit_values.value.Place.{Place}
use Rattle.asked_service.specs.verdict_changes.Changes.{IsOpen}
use Rattle.why_command.specs.declared.opening_lines.alone.Alone.{Alone}
use Rattle.why_command.specs.declared.opening_lines.alone.Alone.TheVariants.{Opens, Needed}
use Rattle.why_command.specs.declared.opening_lines.each.LineAlone.{LineAlone}

-- of questions, in their order: those that are denied in one world and open in the other, as `judge` answers them, and no others
pub data OpensOf (before after : World) : List Question → List Question → Type 0 where
  no_question : OpensOf before after [] []
  was_open : (question : Question) (rest opened : List Question) → IsOpen before question → OpensOf before after rest opened
      → OpensOf before after (question ∷ rest) opened
  stays_denied : (question : Question) (rest opened : List Question) → IsDenied before question → IsDenied after question
      → OpensOf before after rest opened → OpensOf before after (question ∷ rest) opened
  is_opened : (question : Question) (rest opened : List Question) → IsDenied before question → IsOpen after question
      → OpensOf before after rest opened → OpensOf before after (question ∷ rest) (question ∷ opened)

-- a unit that has settings, a plan of its mounts and a launch: exactly these questions of the tables are denied in the world before
-- and open of its service
pub record OpensExactly (before : World) (inputs : Inputs) (opened : List Question) : Type 0 where
  pub service : Service
  pub starts : StartsAs inputs (Ok service)
  pub exactly : OpensOf before service.world (questions inputs.calls inputs.site) opened

-- of the unit without the assignment in force at this place alone; or that unit has no settings, no plan or no launch
abbrev pub IsAlone : List ℕ → Inputs → World → Place → Alone → Type 0
IsAlone name inputs before place (Opens opened) = OpensExactly before (inputs_without inputs (place ∷ [])) opened.items
IsAlone name inputs before place Needed = (line : List ℕ) × IsNotLaunched name (inputs_without inputs (place ∷ [])) line

-- of each assignment in force, in the order of files and lines
pub record AreAlone (name : List ℕ) (inputs : Inputs) (before : World) (told : List LineAlone) : Type 0 where
  pub one_each : map (λ one. one.line.now) told ≡ lines_of inputs.unit
  pub each_is_so : All (λ one. IsAlone name inputs before one.line.now.place one.alone) told
