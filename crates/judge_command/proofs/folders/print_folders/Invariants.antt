use Rattle.std.proofs.Common.{◌≡◌, take}
use Rattle.std.specs.Prelude.{flat_map}
use Rattle.asked_service.specs.unit_inputs.command_answers.Printing.{PrintsAll}
use Rattle.judge_command.specs.Asked.{folder_text}
use Rattle.judge_command.proofs.folders.print_folders.Given as goal

abbrev pub invariant-loop-row : goal.invariant-loop-row
invariant-loop-row g l = record {
  printed : PrintsAll g.K.Sink.taken g.K.Sink.puts l.fn.out l.out (flat_map (folder_text l.asked) (take l.row-index l.rows));
  same : g.K.Sink.faults l.out ≡ g.K.Sink.faults l.fn.out;
}
