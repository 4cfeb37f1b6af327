-- How many answers there are, and how many pass a test.
use Rattle.std.proofs.Common.{◌≡◌, ◌∙◌, suc, ◌+◌, ◌≤◌, Bool, true, false, List, [], ◌∷◌, length, ap, refl, sym, arith}
use Rattle.std.specs.Prelude.{cond, filter, not}
use Rattle.std.proofs.lemmas.List.{length-map}
use Rattle.judge.specs.kernel_laws.Questions.{questions}
use Rattle.asked_service.specs.Asking.{IsAsked, launch_in, world_in}
use Rattle.asked_service.specs.ByRule.{answer_of, answers_of}
use Rattle.asked_service.specs.declared.asking.Asked.{Asked}

-- of each answer that is denied or open
pub few : {X : Type 0} (test : X → Bool) (xs : List X) → length (filter test xs) ≤ length xs
few test [] = omega arith
few test (x ∷ xs) = by (test x) (few test xs) where
  by : (b : Bool) → length (filter test xs) ≤ length xs → length (cond b (x ∷ filter test xs) (filter test xs)) ≤ suc (length xs)
  by true h = omega (arith, h)
  by false h = omega (arith, h)

pub both : {X : Type 0} (test : X → Bool) (xs : List X) → length (filter test xs) + length (filter (λ x. not (test x)) xs) ≡ length xs
both test [] = refl
both test (x ∷ xs) = by (test x) (both test xs) where
  by : (b : Bool) → length (filter test xs) + length (filter (λ x. not (test x)) xs) ≡ length xs
      → length (cond b (x ∷ filter test xs) (filter test xs)) + length
      (cond (not b) (x ∷ filter (λ x. not (test x)) xs) (filter (λ x. not (test x)) xs)) ≡ suc (length xs)
  by true h = omega (arith, h)
  by false h = omega (arith, h)

-- one answer to each question
pub all_are : (asked : Asked) → IsAsked asked
    → length (answers_of (world_in asked) asked.bounded.service.program) ≡ length asked.questions.items
all_are asked is =
    length-map (questions (world_in asked).calls (world_in asked).site) (answer_of (launch_in asked) asked.bounded.service.program)
    ∙ ap length (sym is.questions)
