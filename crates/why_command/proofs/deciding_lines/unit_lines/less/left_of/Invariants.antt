use Rattle.std.proofs.Common.{◌≡◌, take}
use Rattle.std.specs.Prelude.{IfSome}
use Rattle.why_command.specs.deciding_lines.unit_lines.Seen.{IsSeen}
use Rattle.why_command.specs.deciding_lines.unit_lines.Without.{left_of}
use Rattle.why_command.proofs.deciding_lines.unit_lines.less.left_of.Given as goal

abbrev pub invariant-loop-assignment : goal.invariant-loop-assignment
invariant-loop-assignment l = record {
  kept : l.kept.items ≡ left_of l.systemd l.places l.number (take l.assignment-index l.assignments);
  seen : IfSome l.seen (IsSeen l.systemd);
}
