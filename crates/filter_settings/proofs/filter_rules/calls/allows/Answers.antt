use Rattle.std.proofs.Common.{subst}
use Rattle.std.specs.Prelude.{IfSome}
use Rattle.filter_settings.specs.filter_rules.Marks.{AreMarksOf}
use Rattle.filter_settings.proofs.filter_rules.calls.allows.Goals as goal

pub action_by_marks-requires : goal.action_by_marks-requires
action_by_marks-requires c =
    subst (λ calls. IfSome calls (λ list. AreMarksOf c.args.table.now c.args.settings.now.default_action list c.args.marks.now))
    c.in-Some.is c.requires
