use Rattle.std.proofs.Common.{◌∙◌, rules, tests}
use Rattle.std.proofs.lemmas.Iterator.Search.{any_from_yields_List}
use Rattle.std.proofs.lemmas.Iterator.{YieldsList-from_slice}
use Rattle.path_settings.specs.Mentions.{hides}
use Rattle.mount_plan.proofs.Keeping.{any_lent}
use Rattle.mount_plan.proofs.here.any_hides.Goals as goal

pub returns : goal.returns
returns c =
    any_from_yields_List (λ mention. hides mention.now.kind) _ _ _ c.any.ensures.ran
    (YieldsList-from_slice c.args.here.now c.iter.ensures.rest) (λ x b q k. search (rules, tests))
    ∙ any_lent (λ mention. hides mention.kind) c.args.here.now
