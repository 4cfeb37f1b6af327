-- The questions of a list are in it.
use Rattle.std.proofs.Common.{◌≡◌, ℕ, ◌<◌, List, get_or, length, subst}
use Rattle.std.specs.Prelude.{Contains}
use Rattle.std.proofs.lemmas.List.Elements.{Contains-get_or}
use Rattle.judge.specs.call_table.Table as calls
use Rattle.judge.specs.kernel_laws.Questions.{questions}
use Rattle.judge.specs.kernel_laws.declared.question_types.question.Question.{Question}
use Rattle.judge.specs.kernel_laws.declared.question_types.question.Question.TheVariants.{Path}
use Rattle.judge.specs.kernel_laws.declared.question_types.wish.Wish.TheVariants.{See}
use Rattle.judge.specs.site_table.Table.{Site}

-- what stands at no place
abbrev pub some_question : Question
some_question = Path See 0

module _ (table : calls.Table) (site : Site) where
  pub listed_at : (list : List Question) (i : ℕ) → i < length list → list ≡ questions table site
      → Contains (questions table site) (get_or list i some_question)
  listed_at list i lt all = subst (λ own. Contains own (get_or list i some_question)) all (Contains-get_or list i some_question lt)
