use Rattle.std.proofs.Common.{◌≡◌, filter, take}
use Rattle.derive_command.specs.trace_profile.Names.{is_marked}
use Rattle.derive_command.proofs.trace_profile.names.marked.Given as goal

abbrev pub invariant-loop-place : goal.invariant-loop-place
invariant-loop-place l = l.some.items ≡ filter (is_marked l.marks) (take l.place-index l.names)
