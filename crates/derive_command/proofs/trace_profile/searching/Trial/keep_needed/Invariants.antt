use Rattle.std.proofs.Common.{take}
use Rattle.derive_command.specs.trace_profile.Searching.{AreKept, tried_of}
use Rattle.derive_command.proofs.trace_profile.searching.Trial.keep_needed.Given as goal

abbrev pub invariant-loop-name : goal.invariant-loop-name
invariant-loop-name l = AreKept (tried_of l.self) l.names (take l.name-index l.names) l.kept.items
