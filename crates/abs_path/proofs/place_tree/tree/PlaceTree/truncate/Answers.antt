use Rattle.std.proofs.Common.{◌∙◌, sym, subst, List}
use Rattle.std.specs.Option.{IsSome}
use Rattle.abs_path.specs.Paths.{Path}
use Rattle.abs_path.specs.declared.place_tree.node.Node.{Node}
use Rattle.abs_path.specs.place_tree.Arena.{HasNodes, node_at}
use Rattle.abs_path.proofs.Nodes.{have_nodes, take_all}
use Rattle.abs_path.proofs.place_tree.tree.PlaceTree.truncate.Goals as goal

pub renumber-requires-clause-has_nodes : goal.renumber-requires-clause-has_nodes
renumber-requires-clause-has_nodes c =
    subst (λ (nodes : List Node). HasNodes nodes c.deref.result.now) (sym c.deref_mut.ensures.value)
    (subst (λ (places : List Path). HasNodes c.self.inside.nodes.items places) (sym (c.deref.ensures.value ∙ c.truncate.ensures.items))
    (take_all (λ place. IsSome (node_at c.self.inside.nodes.items place)) c.self.inside.places.items c.args.len
    (have_nodes c.self.inside.nodes.items c.self.inside.places.items c.self.invariant.numbers)))
