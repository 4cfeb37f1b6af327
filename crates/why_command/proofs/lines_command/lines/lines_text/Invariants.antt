use Rattle.std.proofs.Common.{◌≡◌, take}
use Rattle.std.specs.Prelude.{flat_map}
use Rattle.why_command.specs.lines_command.Lines.{line_told}
use Rattle.why_command.proofs.lines_command.lines.lines_text.Given as goal

abbrev pub invariant-loop-one : goal.invariant-loop-one
invariant-loop-one l = l.text.items ≡ flat_map (line_told l.calls l.site l.unit.files) (take l.one-index l.told)
