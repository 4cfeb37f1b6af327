-- The questions in the lines of a file, or why a line is not a question.
use Rattle.std.specs.Prelude.{◌≡◌, ◌<◌, ◌≤◌, ℕ, true, false, List, length, map, slice_get, take, Some, Result, Ok, Err, Contains}
use Rattle.std.specs.List.{All}
use Rattle.asked_service.specs.call_table.Table as calls
use Rattle.asked_service.specs.site_table.Table.{Site}
use Rattle.asked_service.specs.kernel_laws.Questions as asked
use Rattle.asked_service.specs.text_forms.line_text.Lines.{Line, is_text, lines_of}
use Rattle.asked_service.specs.kernel_laws.declared.question_types.question.Question.{Question}
use Rattle.question_text.specs.Printed.{IsPrintedSo}
use Rattle.asked_service.specs.report_text.Wording.{question_words}
use Rattle.tighten_command.specs.declared.keeping.KeepError.{KeepError}
use Rattle.tighten_command.specs.declared.keeping.KeepError.TheVariants as error

-- each line is what is printed of a question of the list: these, in their order
pub record AreOf (table : calls.Table) (site : Site) (lines : List Line) (keep : List Question) : Type 0 where
  pub printed : map (λ question. question_words table site question) keep ≡ map (λ line. line.text) lines
  pub listed : All (λ question. Contains (asked.questions table site) question) keep

-- a line with this number that is not the text of a question, after at most 512 lines that are
pub record IsFirstOther (table : calls.Table) (site : Site) (lines : List Line) (number : ℕ) : Type 0 where
  pub place : ℕ
  pub few : place ≤ 512
  pub keep : List Question
  pub before : AreOf table site (take place lines) keep
  pub line : Line
  pub stands : slice_get lines place ≡ Some line
  pub is_other : (question : Question) → IsPrintedSo table site line.text question → ⊥
  pub numbered : number ≡ line.number

-- there are more than 512 questions before any other line
pub record AreTooMany (table : calls.Table) (site : Site) (lines : List Line) : Type 0 where
  pub more : 512 < length lines
  pub keep : List Question
  pub are : AreOf table site (take 513 lines) keep

-- reads the lines that count; memory can run out for any of them
pub data ReadsLines (table : calls.Table) (site : Site) (lines : List Line) : Result (List Question) KeepError → Type 0 where
  questions : (keep : List Question) → AreOf table site lines keep → length keep ≤ 512 → ReadsLines table site lines (Ok keep)
  other_line : (number : ℕ) → IsFirstOther table site lines number → ReadsLines table site lines (Err (error.Line number))
  too_many : AreTooMany table site lines → ReadsLines table site lines (Err error.TooMany)
  no_memory : ReadsLines table site lines (Err error.Memory)

-- by the bytes: they are text first; empty lines and lines that begin with `#` do not count
pub data ReadsKeep (table : calls.Table) (site : Site) (bytes : List ℕ) : Result (List Question) KeepError → Type 0 where
  not_text : is_text bytes ≡ false → ReadsKeep table site bytes (Err error.NotText)
  text_lines : (said : Result (List Question) KeepError) → is_text bytes ≡ true → ReadsLines table site (lines_of bytes) said
      → ReadsKeep table site bytes said
