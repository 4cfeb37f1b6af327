use Rattle.std.proofs.Common.{◌≡◌, take}
use Rattle.why_command.specs.deciding_lines.unit_lines.Without.{all_but}
use Rattle.why_command.proofs.deciding_lines.unit_lines.less.all_but.Given as goal

abbrev pub invariant-loop-place : goal.invariant-loop-place
invariant-loop-place l = l.others.items ≡ all_but l.some (take l.place-index l.places)
