use Rattle.std.proofs.Common.{sym}
use Rattle.ceilings.specs.kernel_laws.Launched.{launch_of}
use Rattle.open_calls.specs.Meanings.{gives}
use Rattle.open_calls.proofs.Opening.{runs}
use Rattle.open_calls.proofs.service.Service.push_at_power.Goals as goal

pub push_run-requires-clause-runs : goal.push_run-requires-clause-runs
push_run-requires-clause-runs c = runs (launch_of c.args.self.now.world.now) c.requires.served.offers c.args.self.now.power
    (gives c.args.kind c.args.id) c.in-Some.row.now (sym c.in-Some.ensures)
