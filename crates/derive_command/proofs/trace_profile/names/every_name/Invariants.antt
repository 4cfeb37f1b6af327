use Rattle.std.proofs.Common.{◌≡◌, filter}
use Rattle.std.specs.List.{range_with_len}
use Rattle.derive_command.specs.trace_profile.Extended.{is_first_line}
use Rattle.derive_command.proofs.trace_profile.names.every_name.Given as goal

abbrev pub invariant-loop-place : goal.invariant-loop-place
invariant-loop-place l = l.names.items ≡ filter (is_first_line l.calls) (range_with_len 0 l.place)
