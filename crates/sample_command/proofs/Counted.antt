-- The counts of all that is asked.
use Rattle.std.proofs.Common.{◌≡◌, ◌∙◌, ℕ, suc, ◌-◌, Bool, true, false, List, [], ◌∷◌, ap, refl, sym, arith, cond, length, map}
use Rattle.std.specs.Prelude.{filter, not, if◌then◌else◌}
use Rattle.asked_service.specs.abs_path.Paths.{Path}
use Rattle.asked_service.specs.Rows.{count_open, rows_of}
use Rattle.asked_service.specs.open_calls.chosen_calls.Chosen.{calls_for}
use Rattle.asked_service.specs.Answers.{Denied, Open, is_denied}
use Rattle.asked_service.specs.Asking.{IsAsked, launch_in, world_in}
use Rattle.asked_service.specs.ByRule.{answer_of, answers_of}
use Rattle.asked_service.specs.declared.asking.Asked.{Asked}
use Rattle.asked_service.proofs.AnswerCounts.{all_are, both}
use Rattle.asked_service.specs.kernel_laws.Bound.{is_open}
use Rattle.asked_service.specs.kernel_laws.Launched.{launch_of}
use Rattle.asked_service.specs.kernel_model.World.{World}
use Rattle.asked_service.specs.kernel_laws.declared.question_types.question.Question.{Question}

-- those that are open by the rule are those whose answers are not denied
open_are : (world : World) (program : Path) (list : List Question)
    → count_open (rows_of world list) ≡ length (filter (λ answer. not (is_denied answer)) (map (answer_of (launch_of world) program) list))
open_are world program [] = refl
open_are world program (question ∷ list) = by (is_open (launch_of world) question) (open_are world program list) where
  by : (b : Bool) → count_open (rows_of world list) ≡ length
      (filter (λ answer. not (is_denied answer)) (map (answer_of (launch_of world) program) list))
      → length (cond b (record { question = question; is_open = b } ∷ filter (λ row. row.is_open) (rows_of world list))
      (filter (λ row. row.is_open) (rows_of world list)))
      ≡ length (filter (λ answer. not (is_denied answer))
      ((if b then Open question (calls_for (launch_of world) program question) else Denied question) ∷ map
      (answer_of (launch_of world) program) list))
  by true h = ap suc h
  by false h = h

module _ (asked : Asked) (is : IsAsked asked) where
  pub all_answers : (count : ℕ) → count ≡ length asked.questions.items
      → count ≡ length (answers_of (world_in asked) asked.bounded.service.program)
  all_answers count all = all ∙ sym (all_are asked is)

  pub open_answers : (open' : ℕ) (list : List Question) → list ≡ asked.questions.items → open' ≡ count_open (rows_of (world_in asked) list)
      → open' ≡ length (filter (λ answer. not (is_denied answer)) (answers_of (world_in asked) asked.bounded.service.program))
  open_answers open' list lends told =
      told ∙ ap (λ these. count_open (rows_of (world_in asked) these)) lends
      ∙ open_are (world_in asked) asked.bounded.service.program asked.questions.items
      ∙ ap (λ these. length (filter (λ answer. not (is_denied answer))
      (map (answer_of (launch_in asked) asked.bounded.service.program) these))) is.questions

  pub denied_answers : (open' count : ℕ)
      → open' ≡ length (filter (λ answer. not (is_denied answer)) (answers_of (world_in asked) asked.bounded.service.program))
      → count ≡ length (answers_of (world_in asked) asked.bounded.service.program)
      → count - open' ≡ length (filter is_denied (answers_of (world_in asked) asked.bounded.service.program))
  denied_answers open' count told every =
      let whole = both is_denied (answers_of (world_in asked) asked.bounded.service.program) in
      omega (arith, told, whole, every)
