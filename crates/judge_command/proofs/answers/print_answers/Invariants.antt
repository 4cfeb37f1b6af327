use Rattle.std.proofs.Common.{◌≡◌, ◌≤◌, take}
use Rattle.std.specs.Prelude.{flat_map}
use Rattle.asked_service.specs.unit_inputs.command_answers.Printing.{PrintsAll}
use Rattle.judge_command.specs.Asked.{answer_text, denied_among}
use Rattle.judge_command.proofs.answers.print_answers.Given as goal

abbrev pub invariant-loop-question : goal.invariant-loop-question
invariant-loop-question g l = record {
  printed : PrintsAll g.K.Sink.taken g.K.Sink.puts l.fn.out l.out (flat_map (answer_text l.asked) (take l.question-index l.list));
  counted : l.denied ≡ denied_among l.asked (take l.question-index l.list);
  few : l.denied ≤ l.question-index;
  same : g.K.Sink.faults l.out ≡ g.K.Sink.faults l.fn.out;
}
