use Rattle.std.proofs.Common.{ap, ◌∙◌}
use Rattle.exec_settings.specs.cap_sets.Sets.{single, union}
use Rattle.launcher.proofs.RaisedAll.{none_union}
use Rattle.launcher.proofs.kept.held.Goals as goal

pub returns : goal.returns
returns c =
    c.union.ensures.union
    ∙ ap (λ set. union set c.with-admin.result)
    (c.with-setpcap.ensures.with ∙ ap (λ set. union set (single 8)) c.empty-none.ensures.none ∙ none_union (single 8))
    ∙ ap (union (single 8))
    (c.with-admin.ensures.with ∙ ap (λ set. union set (single 21)) c.empty-none.ensures.none ∙ none_union (single 21))
