use Rattle.std.proofs.Common.{◌≡◌, subst}
use Rattle.std.specs.Prelude.{IfOk, count_by, flat_map, length}
use Rattle.unit_inputs.proofs.Texts.{text_at_error, text_cut, text_then}
use Rattle.score_command.specs.fleet_command.Texts.{counts_line, is_refused, row_line}
use Rattle.score_command.proofs.FleetCommandEnds.{counts_ends}
use Rattle.score_command.proofs.fleet_command.printing.print_fleet.Goals as goal

pub returns-in_err-print_rows-clause-prints_the_text : goal.returns-in_err-print_rows-clause-prints_the_text
returns-in_err-print_rows-clause-prints_the_text g c =
    text_at_error _ _ _ c.in_err-print_rows.field-0.0 c.from_residual.result c.from_residual.ensures.1
    (text_cut _ _ (flat_map row_line c.args.rows.now) (counts_line (length c.args.rows.now) (count_by is_refused c.args.rows.now))
    c.in_err-print_rows.field-0.0
    c.in_err-print_rows.ensures.prints_the_text)

pub returns-clause-prints_the_text : goal.returns-clause-prints_the_text
returns-clause-prints_the_text g c =
    text_then _ _ _ (flat_map row_line c.args.rows.now) (counts_line (length c.args.rows.now) (count_by is_refused c.args.rows.now))
    c.put_line.result
    c.in_ok-print_rows.ensures.prints_the_text
    (c.put_line.ensures.prints_the_line _
    (subst (λ count. IfOk c.counts_line.result (λ line. line.items ≡ counts_line (length c.args.rows.now) count))
    c.count_refused.ensures.counts_them c.counts_line.ensures.tells_both)
    (counts_ends (length c.args.rows.now) (count_by is_refused c.args.rows.now)))
