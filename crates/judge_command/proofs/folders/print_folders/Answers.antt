use Rattle.std.proofs.Common.{arith, ◌∙◌, refl}
use Rattle.asked_service.proofs.OfUnitInputs.Texts.{items_all, items_cut, items_more, nothing_printed, text_at_error}
use Rattle.judge_command.specs.Asked.{folder_text}
use Rattle.judge_command.proofs.folders.print_folders.Goals as goal

pub loop-row-init : goal.loop-row-init
loop-row-init g c = record { printed = nothing_printed c.args.out.now; same = refl }

pub loop-row-preserved : goal.loop-row-preserved
loop-row-preserved g c = record {
  printed = items_more (folder_text c.args.asked.now) c.args.rows.now c.loop-row.row-index c.row-item.result c.row-item.result _ _ _
      (omega arith) c.row-item.is c.loop-row.invariant.printed c.in_ok-print_folder.ensures.prints_the_text;
  same = c.in_ok-print_folder.ensures.fault_rose.no_other_fault ∙ c.loop-row.invariant.same;
}

pub returns-in_err-print_folder-clause-prints_the_text : goal.returns-in_err-print_folder-clause-prints_the_text
returns-in_err-print_folder-clause-prints_the_text g c =
    text_at_error _ _ _ c.in_err-print_folder.field-0.0 c.from_residual.result c.from_residual.ensures.1
    (items_cut (folder_text c.args.asked.now) c.args.rows.now c.loop-row.row-index c.row-item.result c.row-item.result _ _ _
    c.in_err-print_folder.field-0.0 (omega arith) c.row-item.is c.loop-row.invariant.printed c.in_err-print_folder.ensures.prints_the_text)

pub returns-clause-prints_the_text : goal.returns-clause-prints_the_text
returns-clause-prints_the_text g c = items_all (folder_text c.args.asked.now) c.args.rows.now c.loop-row.row-index _ _ (omega arith)
    c.loop-row.invariant.printed
