use Rattle.std.proofs.Common.{◌≡◌, take}
use Rattle.std.specs.Prelude.{flat_map}
use Rattle.unit_inputs.specs.command_answers.Printing.{PrintsAll}
use Rattle.filter_command.specs.Lines.{filter_text}
use Rattle.filter_command.proofs.printing.print_filters.Given as goal

abbrev pub invariant-loop-filter : goal.invariant-loop-filter
invariant-loop-filter g l = record {
  printed : PrintsAll g.K.Sink.taken g.K.Sink.puts l.fn.out l.out (flat_map filter_text (take l.filter-index l.filters));
  same : g.K.Sink.faults l.out ≡ g.K.Sink.faults l.fn.out;
}
