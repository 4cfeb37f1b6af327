use Rattle.std.proofs.Common.{◌∙◌, rules, tests}
use Rattle.std.proofs.lemmas.Iterator.Search.{any_from_yields_List}
use Rattle.std.proofs.lemmas.Iterator.{YieldsList-from_slice}
use Rattle.path_settings.specs.view_map.Kept.{puts}
use Rattle.mount_plan.specs.Host.{host_of}
use Rattle.mount_plan.proofs.Keeping.{any_lent}
use Rattle.mount_plan.proofs.here.is_put.Goals as goal

pub returns : goal.returns
returns c = record {
  some_is_put =
      any_from_yields_List (λ mention. puts (host_of c.args.site.now) c.args.beneath mention.now) _ _ _ c.any.ensures.ran
      (YieldsList-from_slice c.args.here.now c.iter.ensures.rest) (λ x b q k. search (rules, tests))
      ∙ any_lent (puts (host_of c.args.site.now) c.args.beneath) c.args.here.now;
}
