use Rattle.mount_plan.proofs.BothPlans.{plans_have_form}
use Rattle.mount_plan.proofs.laws.plans_have_a_form.Goals as goal

pub returns : goal.returns
returns c = record { of_every_plan = plans_have_form }
