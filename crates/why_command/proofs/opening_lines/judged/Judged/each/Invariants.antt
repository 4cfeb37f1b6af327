use Rattle.std.proofs.Common.{◌≡◌, map, take}
use Rattle.std.specs.List.{All}
use Rattle.why_command.specs.opening_lines.Judging.{IsAloneOf}
use Rattle.why_command.proofs.opening_lines.judged.Judged.each.Given as goal

abbrev pub invariant-loop-line : goal.invariant-loop-line
invariant-loop-line l = record {
  one_each : map (λ one. one.line.now) l.told.items ≡ take l.line-index l.lines;
  each_is_so : All (λ one. IsAloneOf l.self one.line.now.place one.alone) l.told.items;
}
