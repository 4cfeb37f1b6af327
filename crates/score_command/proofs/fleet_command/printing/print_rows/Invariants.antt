use Rattle.std.proofs.Common.{◌≡◌, take}
use Rattle.std.specs.Prelude.{flat_map}
use Rattle.unit_inputs.specs.command_answers.Printing.{PrintsAll}
use Rattle.score_command.specs.fleet_command.Texts.{row_line}
use Rattle.score_command.proofs.fleet_command.printing.print_rows.Given as goal

abbrev pub invariant-loop-row : goal.invariant-loop-row
invariant-loop-row g l = record {
  printed : PrintsAll g.K.Sink.taken g.K.Sink.puts l.fn.out l.out (flat_map row_line (take l.row-index l.rows));
  same : g.K.Sink.faults l.out ≡ g.K.Sink.faults l.fn.out;
}
