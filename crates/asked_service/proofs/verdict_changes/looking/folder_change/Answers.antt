use Rattle.std.proofs.Common.{◌∙◌}
use Rattle.asked_service.specs.Asking.{launch_in}
use Rattle.asked_service.specs.ByRule.{is_named_by}
use Rattle.asked_service.proofs.Found.{turned_is}
use Rattle.asked_service.proofs.verdict_changes.looking.folder_change.Goals as goal

pub returns : goal.returns
returns c = record {
  by_the_rule =
      c.turned.ensures c.args.row.now.path
      ∙ turned_is c.is_named.result c.is_named-2.result (is_named_by (launch_in c.args.before.now) c.args.row.now)
      (is_named_by (launch_in c.args.after.now) c.args.row.now) c.args.row.now.path c.is_named.ensures.by_the_rule
      c.is_named-2.ensures.by_the_rule;
}
