use Rattle.std.proofs.Common.{ap, sym, ◌∙◌, map, []}
use Rattle.std.specs.Option.{option_map_or}
use Rattle.toml.specs.View.{view}
use Rattle.toml_shapes.specs.Tree.{elements}
use Rattle.toml_shapes.proofs.Elements.{elements-view}
use Rattle.toml_shapes.proofs.tree.elements_of.Goals as goal

pub returns-in-Some : goal.returns-in-Some
returns-in-Some c = record {
  elements_or_none =
      ap (map view) c.as_slice.ensures.value ∙ sym (elements-view c.in-Some.array.now.items)
      ∙ ap (λ found. option_map_or elements found []) c.in-Some.ensures;
}
