use Rattle.std.proofs.Common.{sym, ap, ◌∙◌, rules, tests}
use Rattle.std.specs.Prelude.{◌||◌, not}
use Rattle.std.specs.List.{list_any}
use Rattle.std.proofs.lemmas.Iterator.Search.{any_from_yields_List}
use Rattle.std.proofs.lemmas.Iterator.{YieldsList-from_slice}
use Rattle.exposure_score.specs.service_facts.Each.{is_marked, allows_place}
use Rattle.exposure_score.proofs.Allowed.{some_marked}
use Rattle.exposure_score.proofs.service_facts.permitted.lets_through.Goals as goal

pub returns-else-is_none : goal.returns-else-is_none
returns-else-is_none c =
    record {
      by_the_filters =
          any_from_yields_List (is_marked c.args.allowed.now) _ _ _ c.any.ensures.ran
          (YieldsList-from_slice c.list.result.now c.iter.ensures.rest) (λ x b q k. search (rules, tests))
          ∙ (ap (list_any (is_marked c.args.allowed.now)) c.list.ensures.all_in_order
          ∙ some_marked c.args.calls.now c.args.filters.now c.args.allowed.now c.requires.marks c.args.group.now.members
          ∙ sym (ap (λ off. off || list_any (allows_place c.args.calls.now c.args.filters.now) c.args.group.now.members)
          (ap not (c.is_none.ensures ∙ ap not c.if-is_none.false))));
    }
