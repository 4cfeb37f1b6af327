use Rattle.std.proofs.Common.{ap, ◌∙◌}
use Rattle.std.proofs.lemmas.List.{take_all}
use Rattle.why_command.specs.opening_lines.ByRule.{open_among}
use Rattle.asked_service.proofs.Listed.{some_question}
use Rattle.asked_service.specs.kernel_laws.Launched.{launch_of}
use Rattle.why_command.proofs.Gathered.{open_more}
use Rattle.why_command.proofs.opening_lines.opened.opened.Goals as goal

pub push_if_open-requires-clause-listed : goal.push_if_open-requires-clause-listed
push_if_open-requires-clause-listed c = c.requires.listed c.loop-question.question-index some_question c.loop-question-test.true

pub loop-question-preserved : goal.loop-question-preserved
loop-question-preserved c =
    open_more (launch_of c.args.after.now.service.world) c.loop-question.opened.items c.push_if_open.new.opened.items
    c.args.shut.now c.loop-question.question-index some_question c.loop-question-test.true c.loop-question.invariant
    c.in_ok-push_if_open.ensures

pub returns : goal.returns
returns c = record {
  by_the_rule =
      c.loop-question.invariant
      ∙ ap (open_among (launch_of c.args.after.now.service.world))
      (take_all c.loop-question.question-index c.args.shut.now c.loop-question-test.false);
}
