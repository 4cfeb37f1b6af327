use Rattle.kernel_model.specs.kernel_calls.Seen.{seen}
use Rattle.kernel_model.proofs.Lifts.{effect_at, replied_there, child_made, table_made, child_ready, table_ready, child_same, table_same}
use Rattle.kernel_model.proofs.Lifts.{there_too, spaces_too, stays_too, user_child_made, own_user_made, user_child_ready}
use Rattle.kernel_model.proofs.Lifts.{own_user_ready, user_child_same, own_user_same}
use Rattle.kernel_model.proofs.state.State.perform.Goals as goal

pub make_child-requires-clause-there : goal.make_child-requires-clause-there
make_child-requires-clause-there c = there_too c.perform_there.new.self c.args.self.now c.args.place
    (child_same c.in_ok-reply.field-0 c.in-MakesChild.own c.in-MakesChild.is c.in_ok-reply.ensures.stays_where_more_is_to_be_made)
    c.requires.there

pub make_child-requires-clause-spaces : goal.make_child-requires-clause-spaces
make_child-requires-clause-spaces c = spaces_too c.perform_there.new.self c.args.self.now
    (child_same c.in_ok-reply.field-0 c.in-MakesChild.own c.in-MakesChild.is c.in_ok-reply.ensures.stays_where_more_is_to_be_made)
    c.requires.spaces

pub make_table-requires-clause-there : goal.make_table-requires-clause-there
make_table-requires-clause-there c = there_too c.perform_there.new.self c.args.self.now c.args.place
    (table_same c.in_ok-reply.field-0 c.in-MakesTable.is c.in_ok-reply.ensures.stays_where_more_is_to_be_made) c.requires.there

pub make_table-requires-clause-spaces : goal.make_table-requires-clause-spaces
make_table-requires-clause-spaces c = spaces_too c.perform_there.new.self c.args.self.now
    (table_same c.in_ok-reply.field-0 c.in-MakesTable.is c.in_ok-reply.ensures.stays_where_more_is_to_be_made) c.requires.spaces

pub returns-in-Replied-clause-performs : goal.returns-in-Replied-clause-performs
returns-in-Replied-clause-performs c =
    replied_there c.args.self.now c.perform_there.new.self c.args.told.now.calls.now c.args.told.now.site.now c.args.place
    (effect_at c.args.told.now.calls.now c.args.told.now.site.now c.args.self.now (seen c.args.operation.now))
    c.in_ok-reply.field-0 c.in-Replied.reply c.in-Replied.is c.in_ok-reply.ensures.performs

pub returns-in-MakesChild-clause-performs : goal.returns-in-MakesChild-clause-performs
returns-in-MakesChild-clause-performs c =
    child_made c.args.self.now c.perform_there.new.self c.make_child.new.self c.in_ok-reply.field-0 c.args.told.now.calls.now
    c.args.told.now.site.now c.args.place
    (effect_at c.args.told.now.calls.now c.args.told.now.site.now c.args.self.now (seen c.args.operation.now))
    c.in-MakesChild.own c.make_child.result c.in-MakesChild.is c.in_ok-reply.ensures.stays_where_more_is_to_be_made
    c.in_ok-reply.ensures.performs c.make_child.ensures.makes

pub returns-in-MakesChild-clause-needs_no_memory : goal.returns-in-MakesChild-clause-needs_no_memory
returns-in-MakesChild-clause-needs_no_memory c =
    child_ready c.args.self.now c.perform_there.new.self c.in_ok-reply.field-0 c.args.told.now.calls.now c.args.told.now.site.now
    c.args.place (seen c.args.operation.now) c.in-MakesChild.own c.make_child.result c.in-MakesChild.is
    c.in_ok-reply.ensures.stays_where_more_is_to_be_made c.in_ok-reply.ensures.performs c.make_child.ensures.needs_no_memory

pub returns-in-MakesChild-clause-stays : goal.returns-in-MakesChild-clause-stays
returns-in-MakesChild-clause-stays c =
    stays_too c.make_child.result c.make_child.new.self c.perform_there.new.self c.args.self.now
    (child_same c.in_ok-reply.field-0 c.in-MakesChild.own c.in-MakesChild.is c.in_ok-reply.ensures.stays_where_more_is_to_be_made)
    c.make_child.ensures.stays

pub returns-in-MakesTable-clause-performs : goal.returns-in-MakesTable-clause-performs
returns-in-MakesTable-clause-performs c =
    table_made c.args.self.now c.perform_there.new.self c.make_table.new.self c.in_ok-reply.field-0 c.args.told.now.calls.now
    c.args.told.now.site.now c.args.place
    (effect_at c.args.told.now.calls.now c.args.told.now.site.now c.args.self.now (seen c.args.operation.now))
    c.make_table.result c.in-MakesTable.is c.in_ok-reply.ensures.stays_where_more_is_to_be_made c.in_ok-reply.ensures.performs
    c.make_table.ensures.makes

pub returns-in-MakesTable-clause-needs_no_memory : goal.returns-in-MakesTable-clause-needs_no_memory
returns-in-MakesTable-clause-needs_no_memory c =
    table_ready c.args.self.now c.perform_there.new.self c.in_ok-reply.field-0 c.args.told.now.calls.now c.args.told.now.site.now
    c.args.place (seen c.args.operation.now) c.make_table.result c.in-MakesTable.is
    c.in_ok-reply.ensures.stays_where_more_is_to_be_made c.in_ok-reply.ensures.performs c.make_table.ensures.needs_no_memory

pub returns-in-MakesTable-clause-stays : goal.returns-in-MakesTable-clause-stays
returns-in-MakesTable-clause-stays c =
    stays_too c.make_table.result c.make_table.new.self c.perform_there.new.self c.args.self.now
    (table_same c.in_ok-reply.field-0 c.in-MakesTable.is c.in_ok-reply.ensures.stays_where_more_is_to_be_made)
    c.make_table.ensures.stays

pub make_user_child-requires-clause-there : goal.make_user_child-requires-clause-there
make_user_child-requires-clause-there c = there_too c.perform_there.new.self c.args.self.now c.args.place
    (user_child_same c.in_ok-reply.field-0 c.in-MakesUserChild.own c.in-MakesUserChild.is
    c.in_ok-reply.ensures.stays_where_more_is_to_be_made) c.requires.there

pub make_user_child-requires-clause-spaces : goal.make_user_child-requires-clause-spaces
make_user_child-requires-clause-spaces c = spaces_too c.perform_there.new.self c.args.self.now
    (user_child_same c.in_ok-reply.field-0 c.in-MakesUserChild.own c.in-MakesUserChild.is
    c.in_ok-reply.ensures.stays_where_more_is_to_be_made) c.requires.spaces

pub returns-in-MakesUserChild-clause-performs : goal.returns-in-MakesUserChild-clause-performs
returns-in-MakesUserChild-clause-performs c =
    user_child_made c.args.self.now c.perform_there.new.self c.make_user_child.new.self c.in_ok-reply.field-0 c.args.told.now.calls.now
    c.args.told.now.site.now c.args.place
    (effect_at c.args.told.now.calls.now c.args.told.now.site.now c.args.self.now (seen c.args.operation.now))
    c.in-MakesUserChild.own c.make_user_child.result c.in-MakesUserChild.is c.in_ok-reply.ensures.stays_where_more_is_to_be_made
    c.in_ok-reply.ensures.performs c.make_user_child.ensures.makes

pub returns-in-MakesUserChild-clause-needs_no_memory : goal.returns-in-MakesUserChild-clause-needs_no_memory
returns-in-MakesUserChild-clause-needs_no_memory c =
    user_child_ready c.args.self.now c.perform_there.new.self c.in_ok-reply.field-0 c.args.told.now.calls.now c.args.told.now.site.now
    c.args.place (seen c.args.operation.now) c.in-MakesUserChild.own c.make_user_child.result c.in-MakesUserChild.is
    c.in_ok-reply.ensures.stays_where_more_is_to_be_made c.in_ok-reply.ensures.performs c.make_user_child.ensures.needs_no_memory

pub returns-in-MakesUserChild-clause-stays : goal.returns-in-MakesUserChild-clause-stays
returns-in-MakesUserChild-clause-stays c =
    stays_too c.make_user_child.result c.make_user_child.new.self c.perform_there.new.self c.args.self.now
    (user_child_same c.in_ok-reply.field-0 c.in-MakesUserChild.own c.in-MakesUserChild.is
    c.in_ok-reply.ensures.stays_where_more_is_to_be_made) c.make_user_child.ensures.stays

pub make_own_user-requires-clause-there : goal.make_own_user-requires-clause-there
make_own_user-requires-clause-there c = there_too c.perform_there.new.self c.args.self.now c.args.place
    (own_user_same c.in_ok-reply.field-0 c.in-MakesOwnUser.own c.in-MakesOwnUser.is c.in_ok-reply.ensures.stays_where_more_is_to_be_made)
    c.requires.there

pub make_own_user-requires-clause-spaces : goal.make_own_user-requires-clause-spaces
make_own_user-requires-clause-spaces c = spaces_too c.perform_there.new.self c.args.self.now
    (own_user_same c.in_ok-reply.field-0 c.in-MakesOwnUser.own c.in-MakesOwnUser.is c.in_ok-reply.ensures.stays_where_more_is_to_be_made)
    c.requires.spaces

pub returns-in-MakesOwnUser-clause-performs : goal.returns-in-MakesOwnUser-clause-performs
returns-in-MakesOwnUser-clause-performs c =
    own_user_made c.args.self.now c.perform_there.new.self c.make_own_user.new.self c.in_ok-reply.field-0 c.args.told.now.calls.now
    c.args.told.now.site.now c.args.place
    (effect_at c.args.told.now.calls.now c.args.told.now.site.now c.args.self.now (seen c.args.operation.now))
    c.in-MakesOwnUser.own c.make_own_user.result c.in-MakesOwnUser.is c.in_ok-reply.ensures.stays_where_more_is_to_be_made
    c.in_ok-reply.ensures.performs c.make_own_user.ensures.makes

pub returns-in-MakesOwnUser-clause-needs_no_memory : goal.returns-in-MakesOwnUser-clause-needs_no_memory
returns-in-MakesOwnUser-clause-needs_no_memory c =
    own_user_ready c.args.self.now c.perform_there.new.self c.in_ok-reply.field-0 c.args.told.now.calls.now c.args.told.now.site.now
    c.args.place (seen c.args.operation.now) c.in-MakesOwnUser.own c.make_own_user.result c.in-MakesOwnUser.is
    c.in_ok-reply.ensures.stays_where_more_is_to_be_made c.in_ok-reply.ensures.performs c.make_own_user.ensures.needs_no_memory

pub returns-in-MakesOwnUser-clause-stays : goal.returns-in-MakesOwnUser-clause-stays
returns-in-MakesOwnUser-clause-stays c =
    stays_too c.make_own_user.result c.make_own_user.new.self c.perform_there.new.self c.args.self.now
    (own_user_same c.in_ok-reply.field-0 c.in-MakesOwnUser.own c.in-MakesOwnUser.is
    c.in_ok-reply.ensures.stays_where_more_is_to_be_made) c.make_own_user.ensures.stays
