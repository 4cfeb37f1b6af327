use Rattle.why_command.specs.deciding_lines.unit_lines.Marks.{HasNone}
use Rattle.why_command.proofs.deciding_lines.unit_lines.place_set.empty_rows.Given as goal

abbrev pub invariant-loop : goal.invariant-loop
invariant-loop l = HasNone l.rows.items
