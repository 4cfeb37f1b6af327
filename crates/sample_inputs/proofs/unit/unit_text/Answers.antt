use Rattle.std.proofs.Common.{◌≡◌, ◌++◌, map, sym, ap, ◌∙◌, arith}
use Rattle.sample_inputs.specs.Calls.{text_of_lines}
use Rattle.sample_inputs.specs.Unit.{line_of, folder_settings}
use Rattle.sample_inputs.proofs.UnitLines.{text_so_far, before_folders, folder_more, all_folders}
use Rattle.sample_inputs.proofs.unit.unit_text.Goals as goal

pub loop-folder-init : goal.loop-folder-init
loop-folder-init c =
    before_folders c.args.n _ _ _ _ c.in_ok-text.ensures.ok c.in_ok-push_setting.ensures c.in_ok-push_setting-2.ensures
    c.in_ok-push_privileges.ensures

pub loop-folder-preserved : goal.loop-folder-preserved
loop-folder-preserved c =
    c.in_ok-push_folder.ensures
    ∙ ap (λ text. text ++ text_of_lines (map line_of (folder_settings c.args.n c.loop-folder.folder))) c.loop-folder.invariant
    ∙ sym (folder_more c.args.n c.loop-folder.folder)

pub returns : goal.returns
returns c =
    let all : c.loop-folder.folder ≡ 16 = omega arith in
    c.loop-folder.invariant ∙ ap (text_so_far c.args.n) all ∙ all_folders c.args.n
