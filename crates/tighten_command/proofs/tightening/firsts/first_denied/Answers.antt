use Rattle.std.proofs.Common.{arith, subst}
use Rattle.std.specs.List.{All}
use Rattle.std.proofs.lemmas.List.{take_all}
use Rattle.asked_service.proofs.Listed.{some_question}
use Rattle.tighten_command.specs.tightening.Tried.{IsKept, IsShut}
use Rattle.tighten_command.proofs.Found.{first_at, good_more, kept_by, shut_by}
use Rattle.tighten_command.proofs.tightening.firsts.first_denied.Goals as goal

pub is_open-is_open-requires : goal.is_open-is_open-requires
is_open-is_open-requires c = record {
  bounded = c.requires.bounded;
  listed = c.requires.listed c.loop-question.question-index some_question c.loop-question-test.true;
}

pub loop-question-preserved : goal.loop-question-preserved
loop-question-preserved c =
    let world = c.args.bounded.now.service.world in
    record {
      counted = omega (arith, c.loop-question.invariant.counted);
      kept = good_more (IsKept world) (IsShut world) c.args.keep.now c.loop-question.question-index some_question
          c.loop-question-test.true (kept_by world _ c.is_open-is_open.result c.is_open-is_open.ensures.is_so c.if-is_open.true)
          c.loop-question.invariant.kept;
    }

pub returns-else-is_open-clause-first_that_is_denied : goal.returns-else-is_open-clause-first_that_is_denied
returns-else-is_open-clause-first_that_is_denied c =
    let world = c.args.bounded.now.service.world in
    first_at (IsKept world) (IsShut world) c.args.keep.now c.loop-question.question-index _ some_question c.loop-question-test.true
    (omega (arith, c.loop-question.invariant.counted))
    (shut_by world _ c.is_open-is_open.result c.is_open-is_open.ensures.is_so c.if-is_open.false) c.loop-question.invariant.kept

pub returns-clause-none_is_denied : goal.returns-clause-none_is_denied
returns-clause-none_is_denied c =
    subst (All (IsKept c.args.bounded.now.service.world))
    (take_all c.loop-question.question-index c.args.keep.now c.loop-question-test.false) c.loop-question.invariant.kept
