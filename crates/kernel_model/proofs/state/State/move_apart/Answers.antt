use Rattle.std.proofs.Common.{rules}
use Rattle.kernel_model.proofs.Apart.{moved_apart}
use Rattle.kernel_model.proofs.state.State.move_apart.Goals as goal

pub returns-clause-moves : goal.returns-clause-moves
returns-clause-moves c =
    moved_apart _ c.args.self.now c.self.view_is c.args.place c.namespace_place-at.result c.index.result.now c.index_mut.result.now
    _ c.add_copy.new.namespaces.items c.len.result
    c.requires.space c.namespace_place-at.ensures.there c.namespace_place-at.ensures.of_the_namespace c.index.ensures
    c.in_ok-add_copy.ensures.adds (search rules) c.index_mut.ensures.value (search rules)
