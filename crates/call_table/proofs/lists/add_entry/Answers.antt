use Rattle.std.proofs.Common.{[], ◌∷◌, ◌++◌, sym, ap, ◌∙◌, subst}
use Rattle.call_table.specs.Facts.{AreLines}
use Rattle.call_table.specs.declared.call_names.kernel.Kernel.TheVariants.{Base}
use Rattle.call_table.proofs.Checks.{lines_more}
use Rattle.call_table.proofs.lists.add_entry.Goals as goal

pub returns-in_ok-push-in-Ok-clause-sound : goal.returns-in_ok-push-in-Ok-clause-sound
returns-in_ok-push-in-Ok-clause-sound c =
    let lines = c.args.lines.now in
    let checked = c.in-Ok.ensures in
    let longer = c.in_ok-push-in-Ok.ensures.goes_last ∙ ap (λ name. lines ++ record { name = name; number = c.in-Ok.number; cap = c.in-Ok.cap; abi = c.args.abi; kernel = Base } ∷ []) c.in_ok-name-in-Ok.ensures.same_text in
    subst (AreLines c.args.most) (sym longer)
    (lines_more c.args.most lines _ c.requires.lines checked.new_name checked.new_number
    (record { number = checked.fits; capability = checked.known }) checked.room)
