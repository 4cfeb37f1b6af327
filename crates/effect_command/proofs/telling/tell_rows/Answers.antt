use Rattle.std.proofs.Common.{◌∙◌, ◌++◌, ap}
use Rattle.std.specs.Prelude.{flat_map, map}
use Rattle.effect_command.specs.Lines.{kind_of}
use Rattle.effect_command.specs.Told.{lines_in, turns_at}
use Rattle.std.proofs.lemmas.List.{take_all}
use Rattle.effect_command.proofs.telling.tell_rows.Goals as goal

pub returns-clause-tells : goal.returns-clause-tells
returns-clause-tells c =
    c.loop-row.invariant.told
    ∙ ap (λ these. c.args.text.now.items ++ flat_map (λ row. lines_in c.args.after.now (turns_at c.args.before.now c.args.after.now row))
    these) (take_all c.loop-row.row-index c.args.rows.now c.loop-row-test.false)

pub returns-clause-counts : goal.returns-clause-counts
returns-clause-counts c =
    c.loop-row.invariant.counted
    ∙ ap (λ these. c.args.kinds.now.items ++ flat_map (λ row. map kind_of (turns_at c.args.before.now c.args.after.now row)) these)
    (take_all c.loop-row.row-index c.args.rows.now c.loop-row-test.false)
