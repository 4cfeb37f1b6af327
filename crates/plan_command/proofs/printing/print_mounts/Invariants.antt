use Rattle.std.proofs.Common.{◌≡◌, take}
use Rattle.std.specs.Prelude.{flat_map}
use Rattle.unit_inputs.specs.command_answers.Printing.{PrintsAll}
use Rattle.plan_command.specs.Lines.{mount_line}
use Rattle.plan_command.proofs.printing.print_mounts.Given as goal

abbrev pub invariant-loop-step : goal.invariant-loop-step
invariant-loop-step g l = record {
  printed : PrintsAll g.K.Sink.taken g.K.Sink.puts l.fn.out l.out (flat_map mount_line (take l.step-index l.steps));
  same : g.K.Sink.faults l.out ≡ g.K.Sink.faults l.fn.out;
}
