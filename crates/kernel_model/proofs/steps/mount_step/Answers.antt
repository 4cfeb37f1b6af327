use Rattle.std.proofs.Common.{◌∙◌, sym}
use Rattle.kernel_model.proofs.MountSteps.{steps_at_root}
use Rattle.kernel_model.proofs.steps.mount_step.Goals as goal

pub returns-then-is_root-clause-steps : goal.returns-then-is_root-clause-steps
returns-then-is_root-clause-steps c = steps_at_root c.args.table.now c.set_root_flags.new.self c.args.step.now
    (sym c.is_root.ensures.without_parts ∙ c.if-is_root.true) c.set_root_flags.ensures.sets
