use Rattle.std.proofs.Common.{arith}
use Rattle.cap_sets.proofs.Naming.{flags_length, name_at}
use Rattle.cap_sets.proofs.set.CapSet.name.Goals as goal

pub returns : goal.returns
returns c = record { its_name = name_at _ c.flags-flags.result.now c.args.cap _ (c.flags-flags.ensures tt) c.requires }

pub bounds-flags-cap : goal.bounds-flags-cap
bounds-flags-cap c = omega (arith, flags_length _ c.flags-flags.result.now (c.flags-flags.ensures tt))
