use Rattle.std.proofs.Common.{subst}
use Rattle.std.specs.Prelude.{IfSome}
use Rattle.filter_settings.specs.filter_rules.Marks.{AreMarksOf}
use Rattle.filter_settings.proofs.filter_rules.calls.calls_choice.Goals as goal

pub list_choice-requires : goal.list_choice-requires
list_choice-requires c =
    subst (λ calls. IfSome calls (λ list. AreMarksOf c.args.table.now c.args.default list c.args.marks.now)) c.in-Some.is
    c.requires.marks
