use Rattle.std.proofs.Common.{rules}
use Rattle.kernel_model.proofs.Apart.{user_made_apart}
use Rattle.kernel_model.proofs.state.State.make_user_apart.Goals as goal

pub returns-clause-makes : goal.returns-clause-makes
returns-clause-makes c =
    user_made_apart _ c.args.self.now c.self.view_is c.args.place c.namespace_place-at.result c.index.result.now c.in_ok-child.child
    c.enter.new.self c.reserve.new.self.items c.push.new.self.items c.add_copy.new.namespaces.items _ _
    c.requires.room c.requires.space c.namespace_place-at.ensures.there c.namespace_place-at.ensures.of_the_namespace
    c.index.ensures c.in_ok-child.ensures c.enter.ensures.entered (search rules) c.in_ok-reserve.ensures.items
    c.in_ok-add_copy.ensures.adds c.in_ok-push.ensures.items (search rules)
