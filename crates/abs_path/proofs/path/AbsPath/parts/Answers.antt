use Rattle.std.proofs.Common.{◌≡◌, ◌∙◌, ap, subst, not, map, IfOk, lit<, rules, tests}
use Rattle.std.proofs.lemmas.Iterator.Consumers.{map_from_collect, YieldsList-from_filter, YieldsList-at}
use Rattle.std.proofs.lemmas.Iterator.Splits.{YieldsList-from_str_split}
use Rattle.abs_path.specs.Paths.{Path, parts_of, is_idle}
use Rattle.abs_path.proofs.path.AbsPath.parts.Goals as goal

pub returns : goal.returns
returns c = record {
  lends_each = subst (λ (path : Path). IfOk c.collect.result (λ parts. map (λ part. part.now) parts.items ≡ path))
      (ap parts_of c.as_str.ensures ∙ c.self.view_is)
      (map_from_collect _ c.collect.ensures.ran
      (YieldsList-from_filter _ (λ piece. not (is_idle piece))
      (YieldsList-at c.filter.ensures.source
      (YieldsList-from_str_split 47 c.as_str.result.now (lit< tt) c.split.ensures.text c.split.ensures.has_more
      c.split.ensures.pattern))
      c.filter.ensures.closure (λ x r q k. search (rules, tests))));
}
