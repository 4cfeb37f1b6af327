use Rattle.std.specs.Prelude.{codes}
use Rattle.asked_service.proofs.Listed.{some_question}
use Rattle.asked_service.proofs.OfReportText.More.{told_more}
use Rattle.asked_service.specs.report_text.Answers.{question_line}
use Rattle.why_command.proofs.lines_command.lines.push_questions.Goals as goal

pub loop-question-preserved : goal.loop-question-preserved
loop-question-preserved c =
    told_more (question_line (codes "opened") c.args.calls.now c.args.site.now) c.args.text.now.items c.loop-question.text.items
    c.push_question.new.text.items c.args.opened.now c.loop-question.question-index some_question c.loop-question-test.true
    c.loop-question.invariant c.in_ok-push_question.ensures
