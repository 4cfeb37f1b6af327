use Rattle.report_text.specs.Wording.{question_words}
use Rattle.question_text.proofs.Finding.{next_mapped, next_text, some_question}
use Rattle.question_text.proofs.printed.print_list.Goals as goal

pub loop-question-preserved : goal.loop-question-preserved
loop-question-preserved c = record {
  in_order =
      next_mapped (λ one. one.question) c.loop-question.printed.items c.push.new.self.items c.args.list.now c.loop-question.question-index
      some_question c.in_ok-print_question.field-0
      c.in_ok-push.ensures.items c.loop-question.invariant.in_order c.in_ok-print_question.ensures.same c.loop-question-test.true;
  texts =
      next_text (λ one. one.text.items) (λ question. question_words c.args.calls.now c.args.site.now question)
      c.loop-question.printed.items c.push.new.self.items c.args.list.now c.loop-question.question-index some_question
      c.in_ok-print_question.field-0
      c.in_ok-push.ensures.items c.loop-question.invariant.texts c.in_ok-print_question.ensures.text c.loop-question-test.true;
}
