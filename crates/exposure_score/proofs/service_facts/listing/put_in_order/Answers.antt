use Rattle.std.proofs.Common.{rules}
use Rattle.std.proofs.lemmas.Cmp.{nat_list_cmp_total}
use Rattle.std.proofs.lemmas.List.Sorted.{answers_always, ranks_by}
use Rattle.exposure_score.specs.declared.facts.Fact.{Fact}
use Rattle.exposure_score.proofs.service_facts.listing.put_in_order.Goals as goal

pub returns-clause-by_identifiers : goal.returns-clause-by_identifiers
returns-clause-by_identifiers c =
    c.sort_unstable_by.ensures.sorted _ (ranks_by nat_list_cmp_total (λ (fact : Fact). fact.id))
    (answers_always _ _ _ (λ f a r g h. search rules))
