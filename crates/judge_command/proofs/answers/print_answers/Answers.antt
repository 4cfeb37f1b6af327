use Rattle.std.proofs.Common.{◌+◌, ap₂, arith, get_or, refl, ◌∙◌}
use Rattle.std.specs.Prelude.{flat_map}
use Rattle.asked_service.proofs.Listed.{listed_at, some_question}
use Rattle.asked_service.proofs.OfUnitInputs.Texts.{items_all, items_cut, items_more, not_printed, nothing_printed, text_at_error}
use Rattle.judge_command.specs.Asked.{answer_text}
use Rattle.judge_command.proofs.Counted.{at_most_one, one_more}
use Rattle.judge_command.proofs.answers.print_answers.Goals as goal

pub verdict-found-requires : goal.verdict-found-requires
verdict-found-requires g c = record {
  launched = c.requires.asked.bounded.served.launched;
  its_own_ceiling = c.requires.asked.bounded.ceiling;
  asked = listed_at c.args.asked.now.bounded.service.world.calls c.args.asked.now.bounded.service.world.site c.args.list.now
      c.loop-question.question-index c.loop-question-test.true c.requires.all;
}

pub of-requires : goal.of-requires
of-requires g c = record { launched = c.requires.asked.bounded.served.launched; its_own_ceiling = c.requires.asked.bounded.ceiling }

pub print_answer-requires : goal.print_answer-requires
print_answer-requires g c = record {
  asked = c.requires.asked;
  listed = listed_at c.args.asked.now.bounded.service.world.calls c.args.asked.now.bounded.service.world.site c.args.list.now
      c.loop-question.question-index c.loop-question-test.true c.requires.all;
  found = c.verdict-found.ensures.by_the_rule;
  its_service = c.in-Ok.ensures.of_the_launch;
}

pub loop-question-init : goal.loop-question-init
loop-question-init g c = record { printed = nothing_printed c.args.out.now; counted = refl; few = omega arith; same = refl }

pub loop-question-preserved : goal.loop-question-preserved
loop-question-preserved g c =
    let once = at_most_one c.verdict-found.result in
    record {
      printed = items_more (answer_text c.args.asked.now) c.args.list.now c.loop-question.question-index some_question
          (get_or c.args.list.now c.loop-question.question-index some_question) _ _ _ c.loop-question-test.true refl
          c.loop-question.invariant.printed c.in_ok-print_answer.ensures.prints_the_text;
      counted =
          ap₂ (λ before more. before + more) c.loop-question.invariant.counted c.denied_once.ensures
          ∙ one_more c.args.asked.now c.args.list.now c.loop-question.question-index some_question
          (get_or c.args.list.now c.loop-question.question-index some_question) c.verdict-found.result c.loop-question-test.true refl
          c.verdict-found.ensures.by_the_rule;
      few = omega (arith, once, c.denied_once.ensures, c.loop-question.invariant.few);
      same = c.in_ok-print_answer.ensures.fault_rose.no_other_fault ∙ c.loop-question.invariant.same;
    }

pub returns-in_err-print_answer-clause-prints_the_text : goal.returns-in_err-print_answer-clause-prints_the_text
returns-in_err-print_answer-clause-prints_the_text g c =
    text_at_error _ _ _ c.in_err-print_answer.field-0.0 c.from_residual.result c.from_residual.ensures.1
    (items_cut (answer_text c.args.asked.now) c.args.list.now c.loop-question.question-index some_question
    (get_or c.args.list.now c.loop-question.question-index some_question) _ _ _ c.in_err-print_answer.field-0.0
    c.loop-question-test.true refl c.loop-question.invariant.printed c.in_err-print_answer.ensures.prints_the_text)

pub returns-in_default-clause-prints_the_text : goal.returns-in_default-clause-prints_the_text
returns-in_default-clause-prints_the_text g c = not_printed c.args.out.now (flat_map (answer_text c.args.asked.now) c.args.list.now)

pub returns-clause-prints_the_text : goal.returns-clause-prints_the_text
returns-clause-prints_the_text g c = items_all (answer_text c.args.asked.now) c.args.list.now c.loop-question.question-index _ _
    (omega arith) c.loop-question.invariant.printed
