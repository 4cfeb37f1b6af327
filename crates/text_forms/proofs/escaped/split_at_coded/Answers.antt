use Rattle.std.proofs.Common.{◌∙◌, sym}
use Rattle.text_forms.proofs.Escapes.{none_coded, first_coded, coded_parts}
use Rattle.text_forms.proofs.escaped.split_at_coded.Goals as goal

pub returns-in_err-at-clause-escaped : goal.returns-in_err-at-clause-escaped
returns-in_err-at-clause-escaped c = rw c.from_residual.ensures (none_coded c.args.bytes.now (sym c.in_err-at.was ∙ c.coded_at.ensures))

pub returns-clause-coded : goal.returns-clause-coded
returns-clause-coded c = first_coded c.args.bytes.now c.in_ok-at.at (sym c.in_ok-at.was ∙ c.coded_at.ensures)

pub returns-clause-escaped : goal.returns-clause-escaped
returns-clause-escaped c = coded_parts c.args.bytes.now c.in_ok-at.at (sym c.in_ok-at.was ∙ c.coded_at.ensures)
