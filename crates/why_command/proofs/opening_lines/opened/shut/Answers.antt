use Rattle.std.proofs.Common.{ap, ◌∙◌}
use Rattle.std.proofs.lemmas.List.{take_all}
use Rattle.why_command.specs.opening_lines.ByRule.{shut_among}
use Rattle.asked_service.proofs.Listed.{listed_at, some_question}
use Rattle.asked_service.specs.kernel_laws.Launched.{launch_of}
use Rattle.why_command.proofs.Gathered.{shut_more}
use Rattle.why_command.proofs.opening_lines.opened.shut.Goals as goal

pub push_if_shut-requires-clause-listed : goal.push_if_shut-requires-clause-listed
push_if_shut-requires-clause-listed c =
    listed_at c.args.before.now.service.world.calls c.args.before.now.service.world.site c.args.list.now c.loop-question.question-index
    c.loop-question-test.true c.requires.all

pub loop-question-preserved : goal.loop-question-preserved
loop-question-preserved c =
    shut_more (launch_of c.args.before.now.service.world) c.loop-question.shut.items c.push_if_shut.new.shut.items
    c.args.list.now c.loop-question.question-index some_question c.loop-question-test.true c.loop-question.invariant
    c.in_ok-push_if_shut.ensures

pub returns : goal.returns
returns c = record {
  by_the_rule =
      c.loop-question.invariant
      ∙ ap (shut_among (launch_of c.args.before.now.service.world))
      (take_all c.loop-question.question-index c.args.list.now c.loop-question-test.false);
}
