use Rattle.std.proofs.Common.{◌∷◌, ◌++◌, [], ◌∙◌, ap}
use Rattle.abs_path.proofs.Nodes.{empty_tree}
use Rattle.abs_path.proofs.place_tree.tree.PlaceTree.new.Goals as goal

pub invariant_of-result : goal.invariant_of-result
invariant_of-result c =
    empty_tree c.new.result c.push.new.self.items c.new-2.result.items
    (record { no_way = c.new.ensures.no_way; no_place = c.new.ensures.no_place })
    (c.in_ok-push.ensures.items ∙ ap (λ nodes. nodes ++ c.new.result ∷ []) c.new-nodes.ensures.items) c.new-2.ensures.items
