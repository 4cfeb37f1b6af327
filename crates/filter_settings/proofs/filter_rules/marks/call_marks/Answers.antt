use Rattle.std.proofs.Common.{sym, subst}
use Rattle.std.specs.Prelude.{IfOk, IfSome}
use Rattle.filter_settings.specs.filter_rules.Marks.{AreMarksOf}
use Rattle.filter_settings.proofs.filter_rules.marks.call_marks.Goals as goal

pub returns-in-Some : goal.returns-in-Some
returns-in-Some c =
    record {
      by_the_list =
          subst (λ calls. IfOk c.marks_of.result (λ marks. IfSome calls (λ list. AreMarksOf c.args.table.now c.args.default list marks.items)))
          (sym c.in-Some.is) c.marks_of.ensures.by_the_words;
    }

pub returns-in-None : goal.returns-in-None
returns-in-None c =
    record {
      by_the_list =
          subst (λ calls. IfSome calls (λ list. AreMarksOf c.args.table.now c.args.default list c.new.result.items))
          (sym c.in-None.is) tt;
    }
