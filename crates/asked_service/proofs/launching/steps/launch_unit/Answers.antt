use Rattle.asked_service.proofs.LaunchedUnits.{launched_unit}
use Rattle.asked_service.proofs.launching.steps.launch_unit.Goals as goal

pub returns-in-Ok : goal.returns-in-Ok
returns-in-Ok c = record {
  launches =
      launched_unit c.args.unit.now c.args.calls.now c.args.site.now c.in-Ok.made c.launch_with.result
      (c.launch_with.ensures c.args.unit.now c.in-Ok.ensures.refuses_first c.in-Ok.ensures.settles);
}
