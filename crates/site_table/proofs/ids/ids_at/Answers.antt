use Rattle.std.proofs.Common.{◌≡◌, List, [], ◌∷◌, Option, map, refl, ap, ◌∙◌}
use Rattle.std.specs.List.{filter_map, cons_option}
use Rattle.toml.specs.View.{view}
use Rattle.site_table.specs.Ids.{as_id}
use Rattle.site_table.proofs.ids.ids_at.Goals as goal

filter_map-map : {X Y Z : Type 0} (f : Y → Option Z) (g : X → Y) (xs : List X) → filter_map (λ x. f (g x)) xs ≡ filter_map f (map g xs)
filter_map-map f g [] = refl
filter_map-map f g (x ∷ xs) = ap (cons_option (f (g x))) (filter_map-map f g xs)

pub returns : goal.returns
returns c = record {
  listed_ids =
      c.new.ensures.holds_them ∙ c.in_ok-ids.ensures ∙ filter_map-map as_id view c.elements_at.result.now
      ∙ ap (filter_map as_id) c.elements_at.ensures.all_in_order;
}
