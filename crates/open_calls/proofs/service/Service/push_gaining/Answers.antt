use Rattle.std.proofs.Common.{sym}
use Rattle.open_calls.proofs.Gained.{gain_can_be_made}
use Rattle.ceilings.specs.kernel_laws.Launched.{launch_of}
use Rattle.open_calls.specs.Meanings.{meant_gain}
use Rattle.open_calls.proofs.service.Service.push_gaining.Goals as goal

pub push_gain-requires-clause-serves : goal.push_gain-requires-clause-serves
push_gain-requires-clause-serves c = gain_can_be_made (launch_of c.args.self.now.world.now) c.requires.served.offers c.args.cap
    (meant_gain c.in-Some.way) (sym c.in-Some.ensures)
