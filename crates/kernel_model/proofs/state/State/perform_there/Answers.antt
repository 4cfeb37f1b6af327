use Rattle.std.proofs.Common.{◌==◌}
use Rattle.kernel_model.specs.kernel_calls.Seen.{seen}
use Rattle.kernel_model.proofs.Apart.{owns_here}
use Rattle.kernel_model.proofs.Lifts.{performed_there, stays_there}
use Rattle.kernel_model.proofs.state.State.perform_there.Goals as goal

pub returns-clause-performs : goal.returns-clause-performs
returns-clause-performs c =
    performed_there _ c.args.self.now c.self.view_is c.args.told.now.calls.now c.args.told.now.site.now c.args.place
    c.namespace_place-at.result c.index_mut.result.now c.perform.new.caller c.index_mut-2.result.now c.perform.new.table
    (seen c.args.operation.now) (c.index.result.now.owner == c.index-2.result.now.user) c.perform.result c.index_mut.ensures.value
    c.index_mut-2.ensures.value c.namespace_place-at.ensures.there c.namespace_place-at.ensures.of_the_namespace
    (owns_here _ c.args.self.now c.self.view_is c.args.place c.namespace_place-at.result c.index.result.now c.index-2.result.now
    c.namespace_place-at.ensures.there c.namespace_place-at.ensures.of_the_namespace c.index.ensures c.index-2.ensures)
    c.perform.ensures.performs

pub returns-clause-stays_where_more_is_to_be_made : goal.returns-clause-stays_where_more_is_to_be_made
returns-clause-stays_where_more_is_to_be_made c =
    stays_there _ c.args.self.now c.self.view_is c.args.place c.namespace_place-at.result c.index_mut.result.now c.perform.new.caller
    c.index_mut-2.result.now c.perform.new.table _ c.perform.result c.index_mut.ensures.value c.index_mut-2.ensures.value
    c.perform.ensures.performs
