use Rattle.std.proofs.Common.{◌∙◌, ap, arith, sym}
use Rattle.std.proofs.lemmas.List.{take_all}
use Rattle.asked_service.specs.Rows.{count_open, rows_of}
use Rattle.asked_service.proofs.Counted.{counted_more, counted_same}
use Rattle.asked_service.proofs.Listed.{listed_at, some_question}
use Rattle.asked_service.proofs.rows.count_open.Goals as goal
use Rattle.asked_service.proofs.rows.count_open.Goals.{then-is_open, else-is_open}

pub is_open-requires-clause-listed : goal.is_open-requires-clause-listed
is_open-requires-clause-listed c =
    listed_at c.args.bounded.now.service.world.calls c.args.bounded.now.service.world.site c.args.list.now c.loop-question.question-index
    c.loop-question-test.true c.requires.all

pub loop-question-preserved : goal.loop-question-preserved
loop-question-preserved c = elim c.if-is_open.branch [
  | then-is_open w ↦ record {
    counted = counted_more c.args.bounded.now.service.world c.args.list.now c.loop-question.question-index some_question
        c.loop-question-test.true c.loop-question.open c.if-is_open.open
        (sym c.is_open.ensures.by_the_rule ∙ w.if-is_open.true) c.loop-question.invariant.counted w.open-is;
    few = omega (arith, w.open-is, c.loop-question.invariant.few);
  }
  | else-is_open w ↦ record {
    counted = counted_same c.args.bounded.now.service.world c.args.list.now c.loop-question.question-index some_question
        c.loop-question-test.true c.loop-question.open c.if-is_open.open
        (sym c.is_open.ensures.by_the_rule ∙ w.if-is_open.false) c.loop-question.invariant.counted w.open-is;
    few = omega (arith, w.open-is, c.loop-question.invariant.few);
  }
]

pub returns-clause-counts : goal.returns-clause-counts
returns-clause-counts c = c.loop-question.invariant.counted ∙ ap (λ own. count_open (rows_of c.args.bounded.now.service.world own))
    (take_all c.loop-question.question-index c.args.list.now c.loop-question-test.false)
