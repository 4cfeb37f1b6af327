use Rattle.std.proofs.Common.{◌≡◌, take}
use Rattle.asked_service.specs.unit_inputs.command_answers.Printing.{PrintsAll}
use Rattle.asked_service.specs.kernel_model.Runs.{run}
use Rattle.replay_command.specs.Lines.{run_text}
use Rattle.replay_command.proofs.replaying.make_calls.Given as goal

abbrev pub invariant-loop-call : goal.invariant-loop-call
invariant-loop-call g l = record {
  printed : PrintsAll g.K.Sink.taken g.K.Sink.puts l.fn.out l.out (run_text l.calls l.fn.world (take l.call-index l.script));
  same : g.K.Sink.faults l.out ≡ g.K.Sink.faults l.fn.out;
  left : l.world ≡ run l.fn.world (take l.call-index l.script);
}
