use Rattle.asked_service.proofs.LaunchedUnits.{launched_by}
use Rattle.asked_service.proofs.launching.steps.launch_with.Goals as goal

pub returns : goal.returns
returns c = λ unit accepted settled.
    launched_by unit c.args.calls.now c.args.site.now c.args.settings.now c.in_ok-steps.steps c.list.result.now accepted settled
    c.in_ok-steps.ensures c.list.ensures.all_in_order c.launch_planned.result c.launch_planned.ensures.launches
