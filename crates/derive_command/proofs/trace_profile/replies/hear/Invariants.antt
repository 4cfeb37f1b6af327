use Rattle.std.proofs.Common.{◌≡◌, ◌++◌, drop, length}
use Rattle.asked_service.specs.kernel_model.Runs.{replies}
use Rattle.derive_command.specs.trace_profile.Foretelling.{fates}
use Rattle.derive_command.proofs.trace_profile.replies.hear.Given as goal

-- what was heard, and what is left to hear
abbrev pub invariant-loop-call : goal.invariant-loop-call
invariant-loop-call l = record {
  made : l.said.items ++ replies l.world (drop l.call-index l.script) ≡ replies l.fn.world l.script;
  done : l.fates.items ++ fates l.world (drop l.call-index l.script) ≡ fates l.fn.world l.script;
  each : length l.said.items ≡ l.call-index;
  a_fate_each : length l.fates.items ≡ l.call-index;
}
