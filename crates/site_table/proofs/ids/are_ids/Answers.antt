use Rattle.std.proofs.Common.{sym, ap, ◌∙◌}
use Rattle.std.specs.Prelude.{is_some}
use Rattle.std.specs.List.{list_all}
use Rattle.std.proofs.lemmas.List.Folds.{list_all-map}
use Rattle.toml.specs.View.{view}
use Rattle.site_table.specs.Ids.{as_id}
use Rattle.site_table.proofs.ids.are_ids.Goals as goal

pub returns : goal.returns
returns c = record {
  all_are_ids =
      c.all_ids.ensures ∙ sym (list_all-map (λ value. is_some (as_id value)) view c.elements_at.result.now)
      ∙ ap (list_all (λ value. is_some (as_id value))) c.elements_at.ensures.all_in_order;
}
