use Rattle.std.proofs.Common.{◌≡◌, ℕ, List, ◌++◌, length}
use Rattle.unit_inputs.specs.command_answers.Printing.{PrintsAll}
use Rattle.unit_inputs.proofs.command_answers.lines.put_lines.Given as goal

abbrev pub invariant-loop-line : goal.invariant-loop-line
invariant-loop-line g l =
    (front : List ℕ) × (front ++ l.left ≡ l.text) × PrintsAll g.K.Sink.taken g.K.Sink.puts l.fn.out l.out front ×
    (g.K.Sink.faults l.out ≡ g.K.Sink.faults l.fn.out)

abbrev pub decreases-loop-line : goal.decreases-loop-line
decreases-loop-line g l = length l.left
