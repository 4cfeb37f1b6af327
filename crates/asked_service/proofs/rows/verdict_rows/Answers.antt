use Rattle.std.proofs.Common.{ap, subst, sym, ◌∙◌}
use Rattle.std.proofs.lemmas.List.{take_all}
use Rattle.asked_service.specs.Rows.{AreRows, rows_of}
use Rattle.asked_service.proofs.Exact.{rows_are}
use Rattle.asked_service.proofs.Listed.{listed_at}
use Rattle.asked_service.proofs.rows.verdict_rows.Goals as goal

pub is_open-requires-clause-listed : goal.is_open-requires-clause-listed
is_open-requires-clause-listed c =
    listed_at c.args.bounded.now.service.world.calls c.args.bounded.now.service.world.site c.args.list.now c.loop-question.question-index
    c.loop-question-test.true c.requires.all

pub returns-clause-one_each_and_so : goal.returns-clause-one_each_and_so
returns-clause-one_each_and_so c =
    subst (AreRows c.args.bounded.now.service.world)
    (sym (c.loop-question.invariant ∙ ap (rows_of c.args.bounded.now.service.world)
    (take_all c.loop-question.question-index c.args.list.now c.loop-question-test.false)))
    (rows_are c.openness.ensures.each_listed c.args.bounded.now.service.world c.requires.bounded.served c.args.list.now c.requires.all)
