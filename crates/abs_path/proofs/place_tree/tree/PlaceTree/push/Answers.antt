use Rattle.std.proofs.Common.{◌≡◌, ◌∙◌, ◌++◌, ◌∷◌, [], length, Some, refl, ap, arith}
use Rattle.abs_path.specs.Paths.{Path}
use Rattle.abs_path.proofs.Nodes.{grown_tree, placed_tree_as}
use Rattle.abs_path.proofs.place_tree.tree.PlaceTree.push.Goals as goal

pub invariant_of-self-2 : goal.invariant_of-self-2
invariant_of-self-2 c =
    let size : c.len-number.result ≡ length c.self.inside.places.items = omega (arith, c.self.inside.places.ok.0) in
    placed_tree_as c.node_for.new.nodes.items c.index_mut.result.now _ c.in_ok-at.at c.self.inside.places.items c.push.new.self.items
    c.args.place.now (record {
      tree = grown_tree c.self.inside.nodes.items c.node_for.new.nodes.items c.self.inside.places.items c.self.invariant
          c.in_ok-at.ensures.grows;
      node_of_place = c.in_ok-at.ensures.node;
      in_range = c.in_ok-at.ensures.in_range;
      node_is = c.index_mut.ensures.value;
      ways = λ part. refl;
      number = ap Some size;
    }) (c.in_ok-push.ensures.items ∙ ap (λ (p : Path). c.self.inside.places.items ++ p ∷ []) c.in_ok-copy.ensures.same)
