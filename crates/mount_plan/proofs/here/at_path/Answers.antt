use Rattle.std.proofs.Common.{rules, tests}
use Rattle.std.proofs.lemmas.Iterator.{YieldsList-from_slice}
use Rattle.std.proofs.lemmas.Iterator.Consumers.{map_from_collect, YieldsList-from_filter, YieldsList-at}
use Rattle.path_settings.specs.abs_path.Prefix.{is_same}
use Rattle.mount_plan.proofs.here.at_path.Goals as goal

pub returns : goal.returns
returns c = record {
  those_at_the_path =
      map_from_collect _ c.collect.ensures.ran
      (YieldsList-from_filter _ (λ mention. is_same mention.path c.args.path.now)
      (YieldsList-at c.filter.ensures.source (YieldsList-from_slice c.args.mentions.now c.iter.ensures.rest)) c.filter.ensures.closure
      (λ x r q k. search (rules, tests)));
}
