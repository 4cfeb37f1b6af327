use Rattle.std.proofs.Common.{◌≡◌, ◌++◌, map, drop}
use Rattle.std.specs.List.{enumerate_from}
use Rattle.call_table.specs.ByNumber.{numbered_at, numbered_lines}
use Rattle.call_table.proofs.by_number.numbered_lines.Given as goal

abbrev pub invariant-loop-position : goal.invariant-loop-position
invariant-loop-position l = l.order.items ++ map numbered_at (enumerate_from l.position (drop l.position l.lines)) ≡ numbered_lines l.lines
