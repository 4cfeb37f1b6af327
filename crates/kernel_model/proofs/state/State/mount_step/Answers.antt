use Rattle.kernel_model.proofs.MountSteps.{room_there, stepped_there}
use Rattle.kernel_model.proofs.state.State.mount_step.Goals as goal

pub mount_step-requires-clause-room : goal.mount_step-requires-clause-room
mount_step-requires-clause-room c =
    room_there _ c.args.self.now c.self.view_is c.args.place c.namespace_place-at.result c.index_mut.result.now c.requires.there
    c.namespace_place-at.ensures.there c.index_mut.ensures.value c.namespace_place-at.ensures.of_the_namespace c.requires.room

pub returns-clause-steps : goal.returns-clause-steps
returns-clause-steps c =
    stepped_there _ c.args.self.now c.self.view_is c.args.place c.namespace_place-at.result c.index_mut.result.now c.mount_step.new.table
    c.args.step.now c.mount_step.result c.namespace_place-at.ensures.there c.index_mut.ensures.value
    c.namespace_place-at.ensures.of_the_namespace c.mount_step.ensures.steps
