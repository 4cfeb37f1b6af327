use Rattle.std.proofs.Common.{◌≡◌, ◌++◌, take}
use Rattle.std.specs.Prelude.{flat_map}
use Rattle.report_text.specs.Answers.{call_line}
use Rattle.report_text.proofs.answers.push_call_lines.Given as goal

abbrev pub invariant-loop-call : goal.invariant-loop-call
invariant-loop-call l = l.text.items ≡ l.initial.text.items ++ flat_map (call_line l.calls) (take l.call-index l.list)
