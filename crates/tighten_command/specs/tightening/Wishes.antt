-- Wishes that are handed in, whatever they are: each has questions of its own, and there are answers that it may give at verdicts.
use Rattle.std.specs.Prelude.{◌≡◌, Bool, List}
use Rattle.asked_service.specs.kernel_laws.declared.question_types.question.Question.{Question}
use Rattle.asked_service.specs.declared.rows.VerdictRow.{VerdictRow}
use denote.Ref.{Bor}

pub record Wishes : Type 1 where
  pub Wish : Type 0
  pub wishes : List Wish
  pub must_open : Wish → List Question
  pub Answers : List VerdictRow → Wish → Bool → Type 0

-- a call of a closure at these verdicts may give the answer
pub record Gives (may_answer : Bor (List VerdictRow) → Bool → Type 0) (rows : List VerdictRow) (answer : Bool) : Type 0 where
  pub shown : Bor (List VerdictRow)
  pub shows : shown.now ≡ rows
  pub says : may_answer shown answer

-- the wishes of one type, given the questions of each, and the answers that a call of it may give
abbrev pub wishes_by : {W : Type 0} → (W → List Question) → (W → Bor (List VerdictRow) → Bool → Type 0) → List W → Wishes
wishes_by {W} questions_of may_answer wishes = record {
  Wish = W;
  wishes = wishes;
  must_open = questions_of;
  Answers = λ rows wish. Gives (may_answer wish) rows;
}
