use Rattle.std.proofs.Common.{subst, sym}
use Rattle.unit_inputs.specs.command_answers.Lines.{IsLine}
use Rattle.unit_inputs.proofs.Lines.{first_is_line, none_is_line}
use Rattle.unit_inputs.proofs.command_answers.lines.first_line.Goals as goal

pub returns-in_err-at-clause-a_line : goal.returns-in_err-at-clause-a_line
returns-in_err-at-clause-a_line c = rw c.from_residual.ensures (none_is_line c.args.text.now (sym c.in_err-at.ensures.first))

pub returns-clause-a_line : goal.returns-clause-a_line
returns-clause-a_line c = subst IsLine (sym c.split_at.ensures.front) (first_is_line c.args.text.now c.in_ok-at.at
    (sym c.in_ok-at.ensures.first))
