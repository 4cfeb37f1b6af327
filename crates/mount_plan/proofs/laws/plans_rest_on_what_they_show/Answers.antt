use Rattle.mount_plan.proofs.BothPlans.{plan_is_blind}
use Rattle.mount_plan.proofs.Resting.{plan_rests}
use Rattle.mount_plan.proofs.laws.plans_rest_on_what_they_show.Goals as goal

pub returns : goal.returns
returns c = record { on_its_places = plan_rests; not_on_what_is_not_shown = plan_is_blind }
