use Rattle.std.proofs.Common.{◌≡◌, take}
use Rattle.std.specs.Prelude.{flat_map}
use Rattle.asked_service.specs.unit_inputs.command_answers.Printing.{PrintsAll}
use Rattle.asked_service.specs.report_text.Notes.{note_line}
use Rattle.judge_command.proofs.printing.print_notes.Given as goal

abbrev pub invariant-loop-note : goal.invariant-loop-note
invariant-loop-note g l = record {
  printed : PrintsAll g.K.Sink.taken g.K.Sink.puts l.fn.out l.out (flat_map (note_line l.unit.files) (take l.note-index l.notes));
  same : g.K.Sink.faults l.out ≡ g.K.Sink.faults l.fn.out;
}
