use Rattle.std.proofs.Common.{◌∙◌, ap, sym}
use Rattle.std.specs.Prelude.{◌||◌}
use Rattle.ceilings.specs.kernel_ways.Spared.{uids_of}
use Rattle.ceilings.proofs.Spares.{uid_either}
use Rattle.judge.proofs.ids.is_uid_open.Goals as goal

-- where not every uid can be taken, those of the list are all
pub returns-else-top : goal.returns-else-top
returns-else-top c = λ launch own.
    c.contains.ensures.is_among ∙ own.uids c.args.id
    ∙ sym (uid_either launch c.args.id ∙ ap (λ any. any || uids_of launch c.args.id) (sym own.any_uid ∙ c.if-top.false))
