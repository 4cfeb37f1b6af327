use Rattle.std.proofs.Common.{None, get_or, sym, ap, ◌∙◌, arith}
use Rattle.std.proofs.lemmas.Option.{slice_get_within}
use Rattle.call_table.specs.Table.{every_call}
use Rattle.filter_settings.specs.filter_rules.Marks.{with_said}
use Rattle.filter_settings.proofs.Marked.{covers_members, covers_first}
use Rattle.filter_settings.proofs.filter_rules.marks.mark_word.Goals as goal

pub returns-in-Some : goal.returns-in-Some
returns-in-Some c = λ at call first.
    let lt = slice_get_within (every_call c.args.table.now) at call first.stands in
    c.mark_group.ensures at (omega (arith, lt, c.requires))
    ∙ ap (λ b. with_said b c.args.what (get_or c.args.marks.now at None))
    (sym (covers_members c.args.table.now c.args.word.now at call first c.in-Some.name.now c.in-Some.ensures.behind_the_at))

pub returns-in-None : goal.returns-in-None
returns-in-None c = λ at call first.
    let lt = slice_get_within (every_call c.args.table.now) at call first.stands in
    c.mark_name.ensures at (omega (arith, lt, c.requires))
    ∙ ap (λ b. with_said b c.args.what (get_or c.args.marks.now at None))
    (sym (covers_first c.args.table.now c.args.word.now at call first c.in-None.ensures.behind_the_at))
