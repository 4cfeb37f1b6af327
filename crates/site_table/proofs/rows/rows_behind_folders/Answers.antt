use Rattle.std.proofs.Common.{map, arith, ℕ, Option, ◌∙◌, subst}
use Rattle.std.specs.Prelude.{IfSome}
use Rattle.site_table.specs.RowSteps.{PlacesBehind}
use Rattle.std.proofs.lemmas.List.{length-map}
use Rattle.toml.specs.View.{view}
use Rattle.site_table.proofs.Behind.{behind_none, behind_more}
use Rattle.site_table.proofs.Faults.{stands_at}
use Rattle.site_table.proofs.RowsRead.{rows_none, rows_all}
use Rattle.site_table.proofs.rows.rows_behind_folders.Goals as goal

pub loop-value-init : goal.loop-value-init
loop-value-init c =
    let empty = c.new-ordered.ensures.holds_them ∙ c.new.ensures.items in
    behind_none (map view c.args.rows.now) c.new-ordered.result empty (rows_none (map view c.args.rows.now) c.new-ordered.result empty)

pub loop-value-preserved : goal.loop-value-preserved
loop-value-preserved c =
    behind_more (map view c.args.rows.now) c.loop-value.value-index c.loop-value.ordered
    (view c.value-item.result) c.place_behind.new.ordered c.loop-value.invariant
    (stands_at c.args.rows.now c.loop-value.value-index c.value-item.result c.loop-value-test.true c.value-item.is)
    (subst (λ (found : Option ℕ). IfSome found
    (λ at. PlacesBehind c.loop-value.ordered (view c.value-item.result) c.place_behind.new.ordered)) c.in-Some.is
    c.in_ok-folder.ensures)

pub returns : goal.returns
returns c = rows_all (map view c.args.rows.now) c.loop-value.value-index c.loop-value.ordered c.loop-value.invariant.placed
    (omega (arith, length-map c.args.rows.now view))
