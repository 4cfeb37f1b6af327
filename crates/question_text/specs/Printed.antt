-- Questions of the list as they are printed, and how they are read back.
use Rattle.std.specs.Prelude.{◌≡◌, ℕ, List, Option, Some, None, Contains, map}
use Rattle.report_text.specs.call_table.Table as calls
use Rattle.report_text.specs.site_table.Table.{Site}
use Rattle.report_text.specs.kernel_laws.Questions as asked
use Rattle.report_text.specs.kernel_laws.declared.question_types.question.Question.{Question}
use Rattle.report_text.specs.Wording.{question_words}
use Rattle.question_text.specs.declared.printed.PrintedQuestion.{PrintedQuestion}

-- a question of the list is printed so
pub record IsPrintedSo (table : calls.Table) (site : Site) (text : List ℕ) (question : Question) : Type 0 where
  pub listed : Contains (asked.questions table site) question
  pub printed : question_words table site question ≡ text

-- no two questions of the list are printed alike
abbrev pub HaveOneReading : calls.Table → Site → Type 0
HaveOneReading table site =
    (text : List ℕ) (one other : Question) → IsPrintedSo table site text one → IsPrintedSo table site text other → one ≡ other

-- this question, with what is printed of it
pub record IsPrinted (table : calls.Table) (site : Site) (question : Question) (one : PrintedQuestion) : Type 0 where
  pub same : one.question ≡ question
  pub text : one.text.items ≡ question_words table site question

-- all questions of the list, in its order, with what is printed of each
pub record ArePrinted (table : calls.Table) (site : Site) (printed : List PrintedQuestion) : Type 0 where
  pub all : map (λ one. one.question) printed ≡ asked.questions table site
  pub texts : map (λ one. one.text.items) printed ≡ map (question_words table site) (asked.questions table site)
  pub one_reading : HaveOneReading table site

-- this question of the list, and no other, is printed so; or none is
abbrev pub Reads : calls.Table → Site → List ℕ → Option Question → Type 0
Reads table site text (Some question) =
    IsPrintedSo table site text question × ((other : Question) → IsPrintedSo table site text other → other ≡ question)
Reads table site text None = (question : Question) → IsPrintedSo table site text question → ⊥
