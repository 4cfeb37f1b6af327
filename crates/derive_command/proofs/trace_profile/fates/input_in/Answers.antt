use Rattle.std.proofs.Common.{arith}
use Rattle.derive_command.proofs.Foretold.{unseen}
use Rattle.derive_command.proofs.trace_profile.fates.input_in.Goals as goal

pub returns-else-call-abis : goal.returns-else-call-abis
returns-else-call-abis c =
    let many = c.abis.ensures.counts in
    let le = c.if-call-abis.false in
    record { seen = unseen c.args.calls.now c.args.call.now (omega arith) }
