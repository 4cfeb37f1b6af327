use Rattle.std.proofs.Common.{◌∙◌, rules, tests}
use Rattle.std.proofs.lemmas.Iterator.Search.{any_from_yields_List}
use Rattle.std.proofs.lemmas.Iterator.{YieldsList-from_slice}
use Rattle.path_settings.specs.systemd.View.{is_changed_over}
use Rattle.mount_plan.proofs.Keeping.{any_lent}
use Rattle.mount_plan.proofs.systemd.table.is_changed.Goals as goal

pub returns : goal.returns
returns c =
    any_from_yields_List (λ one. is_changed_over c.args.path.now one.now) _ _ _
    c.any.ensures.ran (YieldsList-from_slice c.args.made.now c.iter.ensures.rest) (λ x b q k. search (rules, tests))
    ∙ any_lent (λ one. is_changed_over c.args.path.now one) c.args.made.now
