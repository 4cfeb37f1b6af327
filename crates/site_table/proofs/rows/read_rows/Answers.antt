use Rattle.std.proofs.Common.{map, List, Vec, Global, ap, sym, ◌∙◌, Ok}
use Rattle.std.proofs.lemmas.Result.{err_from_is_err_and}
use Rattle.toml.specs.View.{view}
use Rattle.site_table.specs.declared.row.Row.{Row}
use Rattle.site_table.specs.Order.{rows_in_order, with_fixed}
use Rattle.site_table.specs.Reading.{row_faults, unless_fault}
use Rattle.site_table.specs.Rows.{row_of}
use Rattle.site_table.specs.RowSteps.{fixed_placed}
use Rattle.site_table.proofs.Answering.{accepted, stops_also}
use Rattle.site_table.proofs.Placing.{fixed_is}
use Rattle.site_table.proofs.RowsRead.{listed_normal}
use Rattle.site_table.proofs.rows.read_rows.Goals as goal

pub returns-in_err-ordered : goal.returns-in_err-ordered
returns-in_err-ordered c =
    let p = err_from_is_err_and c.from_residual.result c.from_residual.ensures.1 in
    let rows = map view c.args.rows.now in
    record {
      reads_the_rows =
          rw (p.1, p.2)
          (stops_also (λ (ordered : List Row). ordered) (λ (read : Vec Row Global). read.items) (row_faults rows)
          (rows_in_order (map row_of rows)) (rows_in_order (with_fixed (map row_of rows)))
          c.in_err-ordered.field-0.0 c.in_err-ordered.ensures);
    }

pub returns : goal.returns
returns c =
    let rows = map view c.args.rows.now in
    let said = accepted (row_faults rows) (rows_in_order (map row_of rows)) c.in_ok-ordered.ordered c.in_ok-ordered.ensures in
    record {
      reads_the_rows =
          ap (λ faults. unless_fault faults (rows_in_order (with_fixed (map row_of rows)))) said.0
          ∙ ap Ok (sym (fixed_is (map row_of rows) (listed_normal rows said.0)) ∙ ap fixed_placed said.1 ∙ sym c.in_ok-complete.ensures);
    }
