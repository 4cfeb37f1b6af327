use Rattle.asked_service.proofs.LaunchedUnits.{launched_settled, lent_settings}
use Rattle.asked_service.specs.launching.Settled.{inputs_in}
use Rattle.asked_service.proofs.launching.steps.launch_settled.Goals as goal

pub launch_with-requires : goal.launch_with-requires
launch_with-requires c = record {
  settings = (
    (inputs_in c.args.one.now).unit,
    lent_settings c.args.one.now c.deref.result.now c.deref-2.result.now c.deref-3.result.now c.deref.ensures c.deref-2.ensures
        c.deref-3.ensures c.requires.settled,
  );
}

pub returns : goal.returns
returns c = record {
  launches =
      launched_settled c.args.one.now c.deref.result.now c.deref-2.result.now c.deref-3.result.now c.deref.ensures c.deref-2.ensures
      c.deref-3.ensures c.requires.settled c.launch_with.result (c.launch_with.ensures (inputs_in c.args.one.now).unit);
}
