-- The verdicts by the rule are so.
use Rattle.std.proofs.Common.{◌≡◌, ◌∙◌, zero, suc, Bool, true, false, List, [], ◌∷◌, arith, map, ap, refl, sym, subst}
use Rattle.std.specs.Prelude.{◌↔◌, Contains}
use Rattle.std.specs.List.{AllByRecursion}
use Rattle.judge.specs.kernel_laws.declared.question_types.verdict.Verdict.{Verdict}
use Rattle.judge.specs.kernel_laws.declared.question_types.verdict.Verdict.TheVariants as verdict
use Rattle.judge.specs.kernel_laws.Questions as asked
use Rattle.judge.specs.kernel_model.World.{World}
use Rattle.judge.specs.kernel_ways.Laws.{IsExact, IsServedWorld, QuestionsAreExact}
use Rattle.judge.specs.kernel_laws.declared.question_types.question.Question.{Question}
use Rattle.asked_service.specs.Asked.{is_open_by}
use Rattle.asked_service.specs.Rows.{AreRows, IsSo, rows_of}

-- what holds of all holds of each
pub all_at : {X : Type 0} (P : X → Type 0) (xs : List X) (x : X) → AllByRecursion P xs → Contains xs x → P x
all_at P [] x all (at, lt, is) = absurd (omega (arith, lt))
all_at P (y ∷ xs) x all (zero, lt, is) = subst P is all.0
all_at P (y ∷ xs) x all (suc at, lt, is) = all_at P xs x all.1 (at, (omega (arith, lt)), is)

module _ (exact : QuestionsAreExact) (world : World) (served : IsServedWorld world) where
  by_exact : (question : Question) → IsExact world question → IsSo world question (is_open_by world question)
  by_exact question is = (is.denies, is.stays_denied)

  pub it_is_so : (question : Question) → Contains (asked.questions world.calls world.site) question
      → IsSo world question (is_open_by world question)
  it_is_so question listed =
      by_exact question (all_at (IsExact world) (asked.questions world.calls world.site) question (exact world served) listed)

  same_questions : (list : List Question) → map (λ row. row.question) (rows_of world list) ≡ list
  same_questions [] = refl
  same_questions (question ∷ list) = ap (λ rest. question ∷ rest) (same_questions list)

  each_so : (list : List Question) → AllByRecursion (IsExact world) list
      → AllByRecursion (λ row. IsSo world row.question row.is_open) (rows_of world list)
  each_so [] all = tt
  each_so (question ∷ list) all = (by_exact question all.0, each_so list all.1)

  pub rows_are : (list : List Question) → list ≡ asked.questions world.calls world.site → AreRows world (rows_of world list)
  rows_are list all = record {
    one_each = same_questions list ∙ all;
    each_is_so = each_so list (subst (AllByRecursion (IsExact world)) (sym all) (exact world served));
  }

-- what is found is what the rule says
pub found_is : (found : Verdict) (answer open' : Bool) → (found ≡ verdict.Open) ↔ (open' ≡ true)
    → (answer ≡ true ↔ (found ≡ verdict.Open)) → answer ≡ open'
found_is found true true is same = refl
found_is found false false is same = refl
found_is found true false is same = (let e : false ≡ true = is.0 (same.0 refl) in cc)
found_is found false true is same = (let e : false ≡ true = same.1 (is.1 refl) in cc)
