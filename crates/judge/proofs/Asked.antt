-- What is in the list of questions is asked of what it is about.
use Rattle.std.specs.Prelude.{Contains}
use Rattle.ceilings.specs.call_table.Table as calls
use Rattle.ceilings.specs.site_table.Table.{Site}
use Rattle.ceilings.specs.kernel_laws.declared.question_types.question.Question.{Question}
use Rattle.ceilings.specs.kernel_laws.Questions.{IsAsked, questions}
use Rattle.ceilings.proofs.OfKernelLaws.AskedQuestions.{all_asked}
use Rattle.ceilings.specs.kernel_model.World.{World}
use Rattle.ceilings.specs.kernel_ways.Laws.{IsServedWorld, IsExact}
use Rattle.ceilings.proofs.OfKernelWays.Exact.{questions_are_exact}
use Rattle.questions.proofs.Among.{has_contained, all_had}

pub asked : (table : calls.Table) (site : Site) (question : Question) → Contains (questions table site) question → IsAsked table question
asked table site question h = all_had (IsAsked table) (questions table site) question (all_asked table site)
    (has_contained (questions table site) question h)

-- and its verdict is exact
pub exact : (world : World) → IsServedWorld world → (question : Question) → Contains (questions world.calls world.site) question
    → IsExact world question
exact world served question h =
    all_had (IsExact world) (questions world.calls world.site) question (questions_are_exact world served)
    (has_contained (questions world.calls world.site) question h)
