use Rattle.std.proofs.Common.{◌∙◌, ◌++◌, ap}
use Rattle.std.specs.Prelude.{flat_map, map}
use Rattle.asked_service.proofs.Listed.{listed_at, some_question}
use Rattle.effect_command.specs.Lines.{kind_of}
use Rattle.effect_command.specs.Told.{changes_at, lines_in}
use Rattle.asked_service.proofs.OfReportText.More.{told_more}
use Rattle.std.proofs.lemmas.List.{take_all}
use Rattle.effect_command.proofs.telling.tell_questions.Goals as goal

pub tell_question-requires : goal.tell_question-requires
tell_question-requires c = record {
  before = c.requires.before;
  after = c.requires.after;
  its_service = c.requires.its_service;
  same_calls = c.requires.same_calls;
  same_site = c.requires.same_site;
  listed = listed_at c.args.after.now.bounded.service.world.calls c.args.after.now.bounded.service.world.site c.args.list.now
      c.loop-question.question-index c.loop-question-test.true c.requires.all;
}

pub loop-question-preserved : goal.loop-question-preserved
loop-question-preserved c = record {
  told =
      told_more (λ question. lines_in c.args.after.now (changes_at c.args.before.now c.args.after.now question)) c.args.text.now.items
      c.loop-question.text.items c.tell_question.new.text.items c.args.list.now c.loop-question.question-index some_question
      c.loop-question-test.true c.loop-question.invariant.told c.in_ok-tell_question.ensures.tells;
  counted =
      told_more (λ question. map kind_of (changes_at c.args.before.now c.args.after.now question)) c.args.kinds.now.items
      c.loop-question.kinds.items c.tell_question.new.kinds.items c.args.list.now c.loop-question.question-index some_question
      c.loop-question-test.true c.loop-question.invariant.counted c.in_ok-tell_question.ensures.counts;
}

pub returns-clause-tells : goal.returns-clause-tells
returns-clause-tells c =
    c.loop-question.invariant.told
    ∙ ap (λ these. c.args.text.now.items ++ flat_map
    (λ question. lines_in c.args.after.now (changes_at c.args.before.now c.args.after.now question)) these)
    (take_all c.loop-question.question-index c.args.list.now c.loop-question-test.false)

pub returns-clause-counts : goal.returns-clause-counts
returns-clause-counts c =
    c.loop-question.invariant.counted
    ∙ ap (λ these. c.args.kinds.now.items ++ flat_map (λ question. map kind_of (changes_at c.args.before.now c.args.after.now question))
    these) (take_all c.loop-question.question-index c.args.list.now c.loop-question-test.false)
