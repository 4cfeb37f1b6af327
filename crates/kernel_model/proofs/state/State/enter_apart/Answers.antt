use Rattle.std.proofs.Common.{rules}
use Rattle.kernel_model.proofs.Apart.{user_moved_apart}
use Rattle.kernel_model.proofs.state.State.enter_apart.Goals as goal

pub returns-clause-moves : goal.returns-clause-moves
returns-clause-moves c =
    user_moved_apart _ c.args.self.now c.self.view_is c.args.place c.namespace_place-at.result c.index_mut-process.result.now
    c.enter.new.self _ c.add_copy.new.namespaces.items c.len.result
    c.requires.space c.namespace_place-at.ensures.there c.namespace_place-at.ensures.of_the_namespace
    c.in_ok-add_copy.ensures.adds (search rules) c.index_mut-process.ensures.value c.enter.ensures.entered (search rules)
