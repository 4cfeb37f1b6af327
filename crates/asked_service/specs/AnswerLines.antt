-- The lines of an answer.
use Rattle.std.specs.Prelude.{ℕ, List, ◌++◌, flat_map}
use Rattle.judge.specs.call_table.Table as calls
use Rattle.judge.specs.kernel_laws.declared.question_types.verdict.Verdict.TheVariants as verdict
use Rattle.judge.specs.site_table.Table.{Site}
use Rattle.report_text.specs.Answers.{call_line, verdict_line}
use Rattle.asked_service.specs.Answers.{Answer, Denied, Open}

-- a question that is denied, or one that is open with the calls of its list below it
abbrev pub answer_lines : calls.Table → Site → Answer → List ℕ
answer_lines table site (Denied question) = verdict_line table site question verdict.Denied
answer_lines table site (Open question list) = verdict_line table site question verdict.Open ++ flat_map (call_line table) list
