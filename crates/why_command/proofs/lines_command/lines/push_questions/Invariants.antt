use Rattle.std.proofs.Common.{◌≡◌, ◌++◌, take}
use Rattle.std.specs.Prelude.{codes, flat_map}
use Rattle.asked_service.specs.report_text.Answers.{question_line}
use Rattle.why_command.proofs.lines_command.lines.push_questions.Given as goal

abbrev pub invariant-loop-question : goal.invariant-loop-question
invariant-loop-question l = l.text.items ≡ l.initial.text.items ++ flat_map (question_line (codes "opened") l.calls l.site)
    (take l.question-index l.opened)
