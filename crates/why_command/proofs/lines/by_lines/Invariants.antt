use Rattle.std.proofs.Common.{◌≡◌, take}
use Rattle.why_command.specs.Lines.{by_lines}
use Rattle.why_command.proofs.lines.by_lines.Given as goal

abbrev pub invariant-loop-line : goal.invariant-loop-line
invariant-loop-line l = l.text.items ≡ by_lines l.files l.places (take l.line-index l.lines)
