use Rattle.std.proofs.Common.{◌∙◌, sym}
use Rattle.ceilings.specs.kernel_laws.Launched.{launch_of}
use Rattle.ceilings.specs.kernel_laws.declared.question_types.power.Power.TheVariants.{None as Nowise}
use Rattle.open_calls.specs.Meanings.{gives}
use Rattle.open_calls.proofs.Opening.{id_is_open, runs}
use Rattle.open_calls.proofs.service.Service.push_id.Goals as goal

pub push_run-requires-clause-runs : goal.push_run-requires-clause-runs
push_run-requires-clause-runs c = runs (launch_of c.args.self.now.world.now) c.requires.served.offers Nowise
    (gives c.args.kind c.args.id) c.in-Some.row.now (sym c.in-Some.ensures)

pub push_by_cap-requires-clause-reachable : goal.push_by_cap-requires-clause-reachable
push_by_cap-requires-clause-reachable c = id_is_open (launch_of c.args.self.now.world.now) c.args.kind c.args.id c.requires.reachable
    (sym c.is_had.ensures ∙ c.if-is_had.false)
