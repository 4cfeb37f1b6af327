use Rattle.std.proofs.Common.{take}
use Rattle.std.specs.Prelude.{◌==◌}
use Rattle.std.specs.List.{list_any}
use Rattle.derive_command.specs.trace_profile.Used.{MarksLess}
use Rattle.derive_command.proofs.trace_profile.used.clear_all.Given as goal

abbrev pub invariant-loop-place : goal.invariant-loop-place
invariant-loop-place l = MarksLess (λ at. list_any (λ place. place == at) (take l.place-index l.places)) l.initial.marks l.marks
