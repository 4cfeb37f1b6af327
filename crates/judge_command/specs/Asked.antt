-- What is printed of a launched service and the questions about it.
use Rattle.std.specs.Prelude.{◌≡◌, ◌↔◌, ℕ, true, List, [], filter, length, not, if◌then◌else◌}
use Rattle.asked_service.specs.site_table.declared.row.Row.{Row}
use Rattle.asked_service.specs.kernel_laws.Bound.{is_open}
use Rattle.asked_service.specs.kernel_laws.declared.question_types.verdict.Verdict.{Verdict}
use Rattle.asked_service.specs.kernel_laws.declared.question_types.verdict.Verdict.TheVariants as verdict
use Rattle.asked_service.specs.kernel_laws.declared.question_types.question.Question.{Question}
use Rattle.asked_service.specs.report_text.Answers.{blind_line}
use Rattle.asked_service.specs.launching.Told.{told_of}
use Rattle.asked_service.specs.Answers.{Answer}
use Rattle.asked_service.specs.AnswerLines.{answer_lines}
use Rattle.asked_service.specs.Asking.{is_named, launch_in, world_in}
use Rattle.asked_service.specs.ByRule.{answer_of, answers_of, folders_of}
use Rattle.asked_service.specs.declared.asking.Asked.{Asked}
use Rattle.judge_command.specs.Report.{service_text}

-- the verdict on a question
abbrev pub IsVerdict : Asked → Question → Verdict → Type 0
IsVerdict asked question found = (found ≡ verdict.Open) ↔ (is_open (launch_in asked) question ≡ true)

-- the answer to one question, and what is printed of it
abbrev pub answer_in : Asked → Question → Answer
answer_in asked question = answer_of (launch_in asked) asked.bounded.service.program question

abbrev pub answer_text : Asked → Question → List ℕ
answer_text asked question = answer_lines (world_in asked).calls (world_in asked).site (answer_in asked question)

abbrev pub denied_once : Verdict → ℕ
denied_once verdict.Denied = 1
denied_once verdict.Open = 0

-- how many of some questions are denied
abbrev pub denied_among : Asked → List Question → ℕ
denied_among asked list = length (filter (λ question. not (is_open (launch_in asked) question)) list)

-- the line of a row, if it is a folder that is blind
abbrev pub folder_text : Asked → Row → List ℕ
folder_text asked row = if is_named asked row then blind_line row.path else []

-- all of it
abbrev pub asked_text : Asked → List ℕ
asked_text asked =
    service_text (world_in asked).calls (world_in asked).site (told_of (world_in asked) asked.bounded.service.steps)
    (answers_of (world_in asked) asked.bounded.service.program) (folders_of (launch_in asked) (world_in asked).site.rows)
