use Rattle.std.proofs.Common.{◌∙◌, arith, refl}
use Rattle.unit_inputs.proofs.Texts.{items_all, items_cut, items_more, nothing_printed, text_at_error}
use Rattle.score_command.specs.fleet_command.Texts.{row_line}
use Rattle.score_command.proofs.FleetCommandEnds.{row_ends}
use Rattle.score_command.proofs.fleet_command.printing.print_rows.Goals as goal

pub loop-row-init : goal.loop-row-init
loop-row-init g c = record { printed = nothing_printed c.args.out.now; same = refl }

pub loop-row-preserved : goal.loop-row-preserved
loop-row-preserved g c = record {
  printed = items_more row_line c.args.rows.now c.loop-row.row-index _ c.row-item.result _ _ _ c.loop-row-test.true c.row-item.is
      c.loop-row.invariant.printed (c.in_ok-put_line.ensures.prints_the_line _ c.row_line.ensures.tells_the_row
      (row_ends c.row-item.result));
  same = c.in_ok-put_line.ensures.fault_rose.no_other_fault ∙ c.loop-row.invariant.same;
}

pub returns-in_err-put_line-clause-prints_the_text : goal.returns-in_err-put_line-clause-prints_the_text
returns-in_err-put_line-clause-prints_the_text g c =
    text_at_error _ _ _ c.in_err-put_line.field-0.0 c.from_residual.result c.from_residual.ensures.1
    (items_cut row_line c.args.rows.now c.loop-row.row-index _ c.row-item.result _ _ _ c.in_err-put_line.field-0.0 c.loop-row-test.true
    c.row-item.is c.loop-row.invariant.printed (c.in_err-put_line.ensures.prints_the_line _ c.row_line.ensures.tells_the_row
    (row_ends c.row-item.result)))

pub returns-clause-prints_the_text : goal.returns-clause-prints_the_text
returns-clause-prints_the_text g c = items_all row_line c.args.rows.now c.loop-row.row-index _ _ (omega arith) c.loop-row.invariant.printed
