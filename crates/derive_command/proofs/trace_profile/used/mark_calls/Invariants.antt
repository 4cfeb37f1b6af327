use Rattle.std.proofs.Common.{take}
use Rattle.std.specs.List.{list_any}
use Rattle.derive_command.specs.trace_profile.Used.{MarksMore, is_line_of}
use Rattle.derive_command.proofs.trace_profile.used.mark_calls.Given as goal

abbrev pub invariant-loop-call : goal.invariant-loop-call
invariant-loop-call l = MarksMore (λ at. list_any (is_line_of l.calls at) (take l.call-index l.script)) l.initial.marks l.marks
