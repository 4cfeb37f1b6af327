use Rattle.std.proofs.Common.{◌≡◌, ◌++◌, ◌∷◌, [], map, codes, sym, ap, ◌∙◌, arith}
use Rattle.toml.specs.View.{view}
use Rattle.sample_inputs.specs.Site.{dir_row, exe_row, folder_rows}
use Rattle.sample_inputs.proofs.RowsSoFar.{pushed, rows_so_far, no_folder, folder_more, all_folders}
use Rattle.sample_inputs.proofs.site.rows.Goals as goal

pub loop-folder-init : goal.loop-folder-init
loop-folder-init c =
    let usr = dir_row (codes "/usr") in
    let bin = dir_row (codes "/usr/bin") in
    let app = exe_row (codes "/usr/bin/app") in
    let first = pushed c.new-rows.result.items c.push.new.self.items c.in_ok-plain_row.field-0 usr c.in_ok-push.ensures.items c.in_ok-plain_row.ensures.of_kind_and_path ∙ ap (λ rows. map view rows ++ usr ∷ []) c.new-rows.ensures.items in
    let second = pushed c.push.new.self.items c.push-2.new.self.items c.in_ok-plain_row-2.field-0 bin c.in_ok-push-2.ensures.items c.in_ok-plain_row-2.ensures.of_kind_and_path ∙ ap (λ rows. rows ++ bin ∷ []) first in
    pushed c.push-2.new.self.items c.push-3.new.self.items c.in_ok-plain_row-3.field-0 app c.in_ok-push-3.ensures.items
    c.in_ok-plain_row-3.ensures.of_kind_and_path ∙ ap (λ rows. rows ++ app ∷ []) second ∙ sym (no_folder c.args.n)

pub loop-folder-preserved : goal.loop-folder-preserved
loop-folder-preserved c =
    c.in_ok-push_folder.ensures.rows_go_last ∙ ap (λ rows. rows ++ folder_rows c.args.n c.loop-folder.folder) c.loop-folder.invariant
    ∙ sym (folder_more c.args.n c.loop-folder.folder)

pub returns : goal.returns
returns c =
    let all : c.loop-folder.folder ≡ 16 = omega arith in
    c.loop-folder.invariant ∙ ap (rows_so_far c.args.n) all ∙ all_folders c.args.n
