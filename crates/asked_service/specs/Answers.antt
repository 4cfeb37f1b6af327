-- The answers to all that is asked of a launched service.
use Rattle.std.specs.Prelude.{◌≡◌, Bool, true, false, List, map}
use Rattle.std.specs.List.{AllByRecursion}
use Rattle.judge.specs.call_table.Table as calls
use Rattle.judge.specs.site_table.Table.{Site}
use Rattle.judge.specs.kernel_model.declared.kernel_calls.call.Call.{Call}
use Rattle.judge.specs.kernel_model.World.{World}
use Rattle.judge.specs.kernel_laws.Denied.{IsDenied, Shows}
use Rattle.judge.specs.kernel_laws.declared.question_types.question.Question.{Question}
use Rattle.judge.specs.kernel_laws.Questions.{questions}
use Rattle.open_calls.specs.chosen_calls.Makers.{AreMadeByService}

-- what is answered to a question: that it is denied, or that it is open, with a list of calls
pub data Answer : Type 0 where
  Denied : Question → Answer
  Open : Question → List Call → Answer

abbrev pub question_of : Answer → Question
question_of (Denied question) = question
question_of (Open question list) = question

abbrev pub is_denied : Answer → Bool
is_denied (Denied question) = true
is_denied (Open question list) = false

-- denied only if no list of calls of the service and its descendants reaches the question. Open only if the list shows it, so that it is
-- not denied. Process 1 makes each call of the list, except for one after a clone(2) that makes a user namespace
abbrev pub IsTrueAnswer : World → Answer → Type 0
IsTrueAnswer world (Denied question) = IsDenied world question
IsTrueAnswer world (Open question list) = Shows world question list × AreMadeByService world.calls list × (IsDenied world question → ⊥)

-- one answer to each question of the tables, in their order, each of them true
pub record AreAnswers (table : calls.Table) (site : Site) (world : World) (answers : List Answer) : Type 0 where
  pub one_each : map question_of answers ≡ questions table site
  pub each_is_true : AllByRecursion (IsTrueAnswer world) answers
