-- What is answered is true.
use Rattle.std.proofs.Common.{◌≡◌, ◌∙◌, Bool, true, false, List, [], ◌∷◌, ap₂, refl, sym}
use Rattle.std.specs.Prelude.{map, if◌then◌else◌}
use Rattle.std.specs.List.{AllByRecursion}
use Rattle.judge.specs.abs_path.Paths.{Path}
use Rattle.judge.specs.kernel_laws.Bound.{is_open}
use Rattle.judge.specs.kernel_laws.Launched.{launch_of}
use Rattle.judge.specs.kernel_laws.declared.question_types.question.Question.{Question}
use Rattle.judge.specs.kernel_laws.Questions.{questions}
use Rattle.judge.specs.kernel_model.World.{World}
use Rattle.judge.specs.kernel_ways.Laws.{IsExact, IsFit, IsServedWorld, ListedAreFit, QuestionsAreExact}
use Rattle.judge.specs.kernel_ways.Offers.{RunsProgram}
use Rattle.open_calls.specs.chosen_calls.Laws.{ChoiceIsMade, ChoiceShows}
use Rattle.open_calls.specs.chosen_calls.Chosen.{calls_for}
use Rattle.asked_service.specs.Answers.{Denied, Open, IsTrueAnswer, question_of}
use Rattle.asked_service.specs.ByRule.{AnswersAreTrue, answer_of}

module _ (world : World) (program : Path) where
  asks_it : (question : Question) → question_of (answer_of (launch_of world) program question) ≡ question
  asks_it question = by (is_open (launch_of world) question) where
    by : (open' : Bool) → question_of (if open' then Open question (calls_for (launch_of world) program question) else Denied question)
        ≡ question
    by true = refl
    by false = refl

  ask_each : (list : List Question) → map question_of (map (answer_of (launch_of world) program) list) ≡ list
  ask_each [] = refl
  ask_each (question ∷ list) = ap₂ (λ one rest. one ∷ rest) (asks_it question) (ask_each list)

  module _ (served : IsServedWorld world) (runs : RunsProgram (launch_of world) program) (choice : ChoiceShows) (made : ChoiceIsMade) where
    is_true : (question : Question) → IsExact world question → IsFit world.site question
        → IsTrueAnswer world (answer_of (launch_of world) program question)
    is_true question exact fit = by (is_open (launch_of world) question) refl where
      by : (open' : Bool) → is_open (launch_of world) question ≡ open'
          → IsTrueAnswer world (if open' then Open question (calls_for (launch_of world) program question) else Denied question)
      by true e = (choice world program question served runs fit e, made world program question served.launched e, λ denied. (let both : true ≡ false = sym e ∙ exact.stays_denied denied in cc))
      by false e = exact.denies e

    each_true : (list : List Question) → AllByRecursion (IsExact world) list → AllByRecursion (IsFit world.site) list
        → AllByRecursion (IsTrueAnswer world) (map (answer_of (launch_of world) program) list)
    each_true [] exact fit = tt
    each_true (question ∷ list) exact fit = (is_true question exact.0 fit.0, each_true list exact.1 fit.1)

pub answers_are_true : QuestionsAreExact → ListedAreFit → ChoiceShows → ChoiceIsMade → AnswersAreTrue
answers_are_true exact fit choice made world program served runs = record {
  one_each = ask_each world program (questions world.calls world.site);
  each_is_true = each_true world program served runs choice made (questions world.calls world.site) (exact world served)
      (fit world.calls world.site served.offers.site);
}
