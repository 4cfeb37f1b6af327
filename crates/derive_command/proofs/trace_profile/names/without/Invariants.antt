use Rattle.std.proofs.Common.{◌≡◌, take}
use Rattle.derive_command.specs.trace_profile.Names.{without}
use Rattle.derive_command.proofs.trace_profile.names.without.Given as goal

abbrev pub invariant-loop-one : goal.invariant-loop-one
invariant-loop-one l = l.others.items ≡ without l.name (take l.one-index l.names)
