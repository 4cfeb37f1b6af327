-- The wish that the program hands in, by what it may answer for the verdicts on a service.
use Rattle.std.specs.Prelude.{◌≡◌, ◌&&◌, ℕ, Bool, true, false, codes, List, [], ◌∷◌}
use Rattle.std.specs.List.{list_any}
use Rattle.top_call.specs.asked_service.declared.rows.VerdictRow.{VerdictRow}
use Rattle.top_call.specs.kernel_laws.declared.question_types.question.Question.TheVariants as asking
use Rattle.top_call.specs.kernel_laws.declared.question_types.wish.Wish.TheVariants as wish_to
use Rattle.top_call.specs.kernel_laws.declared.question_types.question.Question.{Question}
use denote.Ref.{Bor}

-- asks to execute a file
abbrev pub asks_to_execute : Question → Bool
asks_to_execute (asking.Path wish_to.Exec at) = true
asks_to_execute _ = false

-- some file can be executed by the verdicts
abbrev pub can_execute : List VerdictRow → Bool
can_execute rows = list_any (λ row. row.is_open && asks_to_execute row.question) rows

module _ {W : Type 0} (id_of : W → List ℕ) (must_open : W → List Question) (may_answer : W → Bor (List VerdictRow) → Bool → Type 0) where
  -- a wish with this identifier and no question of its own, which gives this answer for any verdicts
  pub record IsWish (name : List ℕ) (says : List VerdictRow → Bool) (wish : W) : Type 0 where
    pub id : id_of wish ≡ name
    pub no_question : must_open wish ≡ []
    pub answers : (rows : Bor (List VerdictRow)) (answer : Bool) → may_answer wish rows answer → answer ≡ says rows.now

  -- that some file can be executed
  abbrev pub AreProgramWishes : List W → Type 0
  AreProgramWishes (one ∷ []) = IsWish (codes "OpenExec") can_execute one
  AreProgramWishes wishes = ⊥
