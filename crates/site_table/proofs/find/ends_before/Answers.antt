use Rattle.std.proofs.Common.{◌++◌, Some, sym, ap, ◌∙◌}
use Rattle.std.specs.Ordering.{is_lt}
use Rattle.site_table.proofs.Finding.{ends_gap}
use Rattle.site_table.proofs.find.ends_before.Goals as goal

pub returns-in-Some : goal.returns-in-Some
returns-in-Some c = λ yes.
    ends_gap c.args.rows.now (c.args.front.now ++ c.args.rest.now) (Some c.in-Some.last.now) c.requires.ascending c.in-Some.ensures.value
    (sym (c.is_lt.ensures ∙ ap is_lt c.row_order.ensures) ∙ yes)
