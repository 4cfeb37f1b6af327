use Rattle.std.specs.List.{AllWithin}
use Rattle.asked_service.specs.kernel_model.kernel_calls.Calls.{IsCall}
use Rattle.derive_command.proofs.trace_profile.finding.calls_fit.Given as goal

abbrev pub invariant-loop-call : goal.invariant-loop-call
invariant-loop-call l = AllWithin IsCall l.script 0 l.call-index
