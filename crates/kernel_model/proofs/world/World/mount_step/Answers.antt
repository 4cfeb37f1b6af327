use Rattle.std.proofs.Common.{sym}
use Rattle.kernel_model.proofs.MountSteps.{kernel_stepped}
use Rattle.kernel_model.proofs.world.World.mount_step.Goals as goal

pub invariant_of-self : goal.invariant_of-self
invariant_of-self c = (
  c.self.invariant.0,
  kernel_stepped c.self.inside.told.calls.now c.self.inside.told.site.now c.self.inside.state c.mount_step.new.self c.args.pid
      c.in-Some.place c.args.step.now c.mount_step.result (sym c.in-Some.ensures.place) c.self.invariant.1 c.mount_step.ensures.steps
      c.mount_step.ensures.stays,
)
