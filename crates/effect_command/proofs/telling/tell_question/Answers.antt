use Rattle.std.proofs.Common.{◌∙◌, ◌++◌, ap, sym}
use Rattle.effect_command.specs.Told.{changes_at}
use Rattle.effect_command.proofs.Flattened.{verdict_counted, verdict_told}
use Rattle.effect_command.proofs.telling.tell_question.Goals as goal

pub verdict_change-requires : goal.verdict_change-requires
verdict_change-requires c = record {
  before = c.requires.before;
  after = c.requires.after;
  its_service = c.requires.its_service;
  listed_before = rw (c.requires.same_calls, c.requires.same_site) c.requires.listed;
  listed_after = c.requires.listed;
}

pub push_change-requires : goal.push_change-requires
push_change-requires c = record { asked = rw (c.call_table.ensures.told, c.site_table.ensures.told) c.requires.listed }

pub returns-clause-tells : goal.returns-clause-tells
returns-clause-tells c =
    c.in_ok-push_change.ensures
    ∙ ap (λ more. c.args.text.now.items ++ more)
    (verdict_told c.args.after.now c.call_table.result.now c.site_table.result.now c.args.question.now c.in_ok-change.change
    (changes_at c.args.before.now c.args.after.now c.args.question.now) c.call_table.ensures.told c.site_table.ensures.told
    c.in_ok-change.ensures.by_the_rule)

pub returns-clause-counts : goal.returns-clause-counts
returns-clause-counts c =
    c.in_ok-push_kind.ensures
    ∙ ap (λ more. c.args.kinds.now.items ++ more)
    (verdict_counted c.args.question.now c.in_ok-change.change
    (changes_at c.args.before.now c.args.after.now c.args.question.now) c.in_ok-change.ensures.by_the_rule)
