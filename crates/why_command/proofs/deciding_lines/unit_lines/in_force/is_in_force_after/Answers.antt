use Rattle.why_command.proofs.InForce.{seen_again}
use Rattle.why_command.proofs.deciding_lines.unit_lines.in_force.is_in_force_after.Goals as goal

pub returns-then-has_same_key : goal.returns-then-has_same_key
returns-then-has_same_key c = record {
  by_its_key = seen_again c.args.systemd c.args.seen c.in-Some.last c.args.assignment.now c.has_same_key.result c.in-Some.is
      c.requires.before c.has_same_key.ensures c.if-has_same_key.true;
}
