-- A unit that is launched, with all that it is asked.
use Rattle.std.specs.Prelude.{List, Ok}
use Rattle.asked_service.specs.Asking.{IsAsked, world_in}
use Rattle.asked_service.specs.launching.Starting.{StartsAs, given}
use Rattle.asked_service.specs.unit_inputs.Inputs.{Inputs}
use Rattle.asked_service.specs.dropin_merge.declared.unit_values.value.Place.{Place}
use Rattle.asked_service.specs.kernel_laws.Launched.{launch_of}
use Rattle.asked_service.specs.kernel_laws.declared.question_types.question.Question.{Question}
use Rattle.why_command.specs.opening_lines.ByRule.{shut_among}
use Rattle.why_command.specs.opening_lines.Opening.{IsAlone}
use Rattle.why_command.specs.declared.opening_lines.alone.Alone.{Alone}
use Rattle.why_command.specs.declared.opening_lines.judged.Judged.{Judged}

abbrev pub inputs_in : Judged → Inputs
inputs_in judged = given judged.unit.now judged.calls.now judged.site.now

-- by its settings and the plan of its mounts it is launched to this service, which is asked all questions of the tables
pub record IsJudged (judged : Judged) : Type 0 where
  pub starts : StartsAs (inputs_in judged) (Ok judged.asked.bounded.service)
  pub is_asked : IsAsked judged.asked

-- what its line at a place denies by itself
abbrev pub IsAloneOf : Judged → Place → Alone → Type 0
IsAloneOf judged place alone = IsAlone judged.name.now (inputs_in judged) (world_in judged.asked) place alone

-- the questions that are denied of its service
abbrev pub shut_in : Judged → List Question
shut_in judged = shut_among (launch_of (world_in judged.asked)) judged.asked.questions.items
