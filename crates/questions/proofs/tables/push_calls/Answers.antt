use Rattle.std.proofs.Common.{◌+◌, refl, map, drop, arith}
use Rattle.std.specs.Prelude.{slice_get}
use Rattle.kernel_laws.specs.call_table.Table.{every_call}
use Rattle.kernel_laws.specs.Questions.{if_so, of_calls}
use Rattle.kernel_laws.specs.declared.question_types.question.Question.TheVariants.{Call}
use Rattle.questions.proofs.AllCalls.{is_asked_at, calls_left}
use Rattle.questions.proofs.Pushing.{piece_more}
use Rattle.questions.proofs.tables.push_calls.Goals as goal

pub loop-at-preserved : goal.loop-at-preserved
loop-at-preserved c =
    let every = every_call c.args.table.now in
    let asked = is_asked_at every c.loop-at.at (slice_get every c.loop-at.at) in
    piece_more (c.loop-at.list.items) c.push_call.new.list.items (if_so asked (Call c.loop-at.at))
    (of_calls every c.loop-at.at (drop c.loop-at.at every)) (of_calls every (c.loop-at.at + 1) (drop (c.loop-at.at + 1) every)) _
    c.loop-at.invariant c.in_ok-push_call.ensures
    (calls_left every c.loop-at.at (omega (arith, c.loop-at-test.true, c.count_calls-at-end.ensures)) asked refl)
