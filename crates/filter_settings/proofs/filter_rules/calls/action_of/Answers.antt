use Rattle.std.proofs.Common.{◌∙◌}
use Rattle.filter_settings.proofs.Marked.{has_mark, action_at}
use Rattle.filter_settings.proofs.filter_rules.calls.action_of.Goals as goal

pub bounds-marks-place : goal.bounds-marks-place
bounds-marks-place c =
    has_mark c.args.table.now c.args.default c.args.list.now c.args.marks.now c.requires c.args.name.now c.in-Some.place
    c.in-Some.ensures.by_name

pub returns-in-Some : goal.returns-in-Some
returns-in-Some c = c.unwrap_or.ensures
    ∙ action_at c.args.table.now c.args.default c.args.list.now c.args.marks.now c.requires c.args.name.now c.in-Some.place
    c.in-Some.ensures.by_name
