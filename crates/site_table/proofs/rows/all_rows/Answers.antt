use Rattle.std.proofs.Common.{map, List, ◌∙◌, arith}
use Rattle.std.proofs.lemmas.List.{length-map}
use Rattle.std.proofs.lemmas.Result.{err_from_is_err_and}
use Rattle.toml.specs.View.{view}
use Rattle.site_table.specs.declared.row.Row.{Row}
use Rattle.site_table.specs.Order.{rows_in_order}
use Rattle.site_table.specs.Rows.{row_of}
use Rattle.site_table.proofs.Faults.{stands_at}
use Rattle.site_table.proofs.RowsRead.{rows_none, row_more, row_stops, place_stops, rows_all}
use Rattle.site_table.proofs.rows.all_rows.Goals as goal

pub loop-at-init : goal.loop-at-init
loop-at-init c = rows_none (map view c.args.rows.now) c.new-ordered.result (c.new-ordered.ensures.holds_them ∙ c.new.ensures.items)

pub loop-at-preserved : goal.loop-at-preserved
loop-at-preserved c =
    row_more (map view c.args.rows.now) c.in_ok-folders.folders c.loop-at.at c.loop-at.ordered
    (view c.index-rows-at.result) c.in_ok-row.row c.place.new.ordered
    (record { knows = c.in_ok-folders.ensures }) c.loop-at.invariant
    (stands_at c.args.rows.now c.loop-at.at c.index-rows-at.result c.loop-at-test.true c.index-rows-at.is)
    c.in_ok-row.ensures.says_the_row c.in_ok-place.ensures

pub returns-in_err-row : goal.returns-in_err-row
returns-in_err-row c =
    let p = err_from_is_err_and c.from_residual-in_err-row.result c.from_residual-in_err-row.ensures.1 in
    let rows = map view c.args.rows.now in
    rw (p.1, p.2)
    (row_stops rows c.in_ok-folders.folders c.loop-at.at c.loop-at.ordered (view c.index-rows-at.result)
    (row_of (view c.index-rows-at.result)) (λ (ordered : List Row). ordered) (rows_in_order (map row_of rows)) c.in_err-row.field-0.0
    c.loop-at.invariant (stands_at c.args.rows.now c.loop-at.at c.index-rows-at.result c.loop-at-test.true c.index-rows-at.is)
    c.in_err-row.ensures.says_the_row)

pub returns-in_err-place : goal.returns-in_err-place
returns-in_err-place c =
    let p = err_from_is_err_and c.from_residual-in_err-place.result c.from_residual-in_err-place.ensures.1 in
    let rows = map view c.args.rows.now in
    rw (p.1, p.2)
    (place_stops rows c.in_ok-folders.folders c.loop-at.at c.loop-at.ordered (view c.index-rows-at.result) c.in_ok-row.row
    (λ (ordered : List Row). ordered) (rows_in_order (map row_of rows)) c.in_err-place.field-0.0
    c.place.new.ordered (record { knows = c.in_ok-folders.ensures }) c.loop-at.invariant
    (stands_at c.args.rows.now c.loop-at.at c.index-rows-at.result c.loop-at-test.true c.index-rows-at.is)
    c.in_ok-row.ensures.says_the_row c.in_err-place.ensures)

pub returns : goal.returns
returns c = rows_all (map view c.args.rows.now) c.loop-at.at c.loop-at.ordered c.loop-at.invariant
    (omega (arith, length-map c.args.rows.now view))
