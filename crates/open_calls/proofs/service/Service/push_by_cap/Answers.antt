use Rattle.std.proofs.Common.{sym}
use Rattle.ceilings.specs.kernel_laws.Launched.{launch_of}
use Rattle.open_calls.specs.Meanings.{meant_cap, meant_kind, meant_number}
use Rattle.open_calls.proofs.Opening.{serves}
use Rattle.open_calls.proofs.service.Service.push_by_cap.Goals as goal

pub push_cap-requires-clause-serves : goal.push_cap-requires-clause-serves
push_cap-requires-clause-serves c = serves (launch_of c.args.self.now.world.now) c.requires.served.offers (meant_kind c.args.kind)
    (meant_number c.args.kind) (meant_cap c.in-Some.way) (sym c.in-Some.ensures)
