use Rattle.std.proofs.Common.{◌≡◌, take}
use Rattle.std.specs.Prelude.{flat_map}
use Rattle.unit_inputs.specs.command_answers.Printing.{PrintsAll}
use Rattle.filter_command.specs.Lines.{insn_line}
use Rattle.filter_command.proofs.printing.print_insns.Given as goal

abbrev pub invariant-loop-insn : goal.invariant-loop-insn
invariant-loop-insn g l = record {
  printed : PrintsAll g.K.Sink.taken g.K.Sink.puts l.fn.out l.out (flat_map insn_line (take l.insn-index l.insns));
  same : g.K.Sink.faults l.out ≡ g.K.Sink.faults l.fn.out;
}
