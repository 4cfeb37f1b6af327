use Rattle.why_command.specs.deciding_lines.unit_lines.Lines.{is_in_force}
use Rattle.why_command.specs.deciding_lines.unit_lines.Without.{is_among}
use Rattle.why_command.proofs.InForce.{not_taken}
use Rattle.why_command.proofs.deciding_lines.unit_lines.less.take.Goals as goal

pub returns-then-not-contains-clause-takes : goal.returns-then-not-contains-clause-takes
returns-then-not-contains-clause-takes c =
    not_taken (is_in_force c.args.systemd c.args.assignment.now)
    (is_among c.args.places.now (record { file = c.args.number; line = c.args.assignment.now.line })) c.contains.result
    c.contains.ensures.is_one_of_them c.if-not-contains.true
