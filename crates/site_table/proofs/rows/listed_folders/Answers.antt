use Rattle.std.proofs.Common.{map, ap, ◌∙◌, arith}
use Rattle.std.proofs.lemmas.List.{length-map, take_all}
use Rattle.toml.specs.View.{view}
use Rattle.site_table.specs.RowSteps.{has_folder}
use Rattle.site_table.specs.Texts.{has_text}
use Rattle.site_table.proofs.Faults.{stands_at}
use Rattle.site_table.proofs.RowsRead.{folders_more}
use Rattle.site_table.proofs.rows.listed_folders.Goals as goal

pub loop-row-init : goal.loop-row-init
loop-row-init c = λ text. ap (λ texts. has_text texts text) c.new-folders.ensures.empty

pub loop-row-preserved : goal.loop-row-preserved
loop-row-preserved c =
    folders_more (map view c.args.rows.now) c.loop-row.row-index (view c.row-item.result) c.loop-row.folders c.add_folder.new.folders
    (stands_at c.args.rows.now c.loop-row.row-index c.row-item.result c.loop-row-test.true c.row-item.is) c.loop-row.invariant
    c.in_ok-add_folder.ensures

pub returns : goal.returns
returns c = λ text.
    c.loop-row.invariant text ∙ ap (λ rows. has_folder rows text)
    (take_all c.loop-row.row-index (map view c.args.rows.now) (omega (arith, length-map c.args.rows.now view)))
