use Rattle.std.proofs.Common.{◌∙◌}
use Rattle.filter_settings.specs.filter_rules.Calls.{listed_action, listed_by, rest_of}
use Rattle.filter_settings.proofs.Marked.{done, not_done}
use Rattle.filter_settings.proofs.filter_rules.calls.action_by_marks.Goals as goal

pub returns-in-Some : goal.returns-in-Some
returns-in-Some c =
    done (listed_action c.args.list.now.mode c.args.default) (listed_by c.args.table.now c.args.list.now.mentions c.args.name.now)
    c.in-Some.action (rest_of c.args.table.now c.args.default c.args.name.now c.args.list.now) c.in-Some.ensures

pub returns-in-None : goal.returns-in-None
returns-in-None c = c.rest_of.ensures
    ∙ not_done (listed_action c.args.list.now.mode c.args.default) (listed_by c.args.table.now c.args.list.now.mentions c.args.name.now)
    (rest_of c.args.table.now c.args.default c.args.name.now c.args.list.now) c.in-None.ensures
