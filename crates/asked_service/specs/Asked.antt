-- A launched service that is asked, and how a question is decided.
use Rattle.std.specs.Prelude.{Bool}
use Rattle.judge.specs.ceilings.Own.{IsCeilingOf}
use Rattle.judge.specs.kernel_laws.Bound.{is_open}
use Rattle.judge.specs.kernel_laws.Launched.{launch_of}
use Rattle.judge.specs.kernel_model.World.{World}
use Rattle.judge.specs.kernel_ways.Laws.{IsServedWorld}
use Rattle.judge.specs.kernel_laws.declared.question_types.question.Question.{Question}
use Rattle.asked_service.specs.declared.bounding.Bounded.{Bounded}

-- its own ceiling
pub record IsBounded (bounded : Bounded) : Type 0 where
  pub served : IsServedWorld bounded.service.world
  pub ceiling : IsCeilingOf (launch_of bounded.service.world) bounded.ceiling

-- by the rule for launched worlds
abbrev pub is_open_by : World → Question → Bool
is_open_by world question = is_open (launch_of world) question
