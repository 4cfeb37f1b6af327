use Rattle.std.proofs.Common.{sym}
use Rattle.ceilings.specs.kernel_laws.Launched.{launch_of}
use Rattle.open_calls.proofs.Listed.{open_call}
use Rattle.open_calls.proofs.service.Service.push_plain.Goals as goal

pub push_named-requires-clause-some_passes : goal.push_named-requires-clause-some_passes
push_named-requires-clause-some_passes c = open_call (launch_of c.args.self.now.world.now) c.args.self.now.program.now c.args.at
    c.in-Some.line.now (sym c.in-Some.ensures) c.requires.reachable
