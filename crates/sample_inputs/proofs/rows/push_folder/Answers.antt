use Rattle.std.proofs.Common.{◌≡◌, ◌++◌, ◌∷◌, [], map, codes, sym, ap, ◌∙◌, append_assoc, arith}
use Rattle.toml.specs.View.{view}
use Rattle.sample_inputs.specs.Site.{folder_path, object_row, dir_row, plain_row}
use Rattle.sample_inputs.proofs.RowsSoFar.{pushed, objects_so_far, no_object, object_more, all_objects}
use Rattle.sample_inputs.proofs.rows.push_folder.Goals as goal

pub loop-object-init : goal.loop-object-init
loop-object-init c =
    let old = map view c.args.rows.now.items in
    pushed c.args.rows.now.items c.push.new.self.items c.in_ok-plain_row.field-0
    (dir_row (folder_path c.args.folder)) c.in_ok-push.ensures.items
    (c.in_ok-plain_row.ensures.of_kind_and_path ∙ ap (plain_row (codes "dir")) (c.as_str.ensures.value ∙ c.in_ok-path.ensures.ok))
    ∙ ap (λ rows. old ++ rows) (sym (no_object c.args.n c.args.folder))

pub loop-object-preserved : goal.loop-object-preserved
loop-object-preserved c =
    let old = map view c.args.rows.now.items in
    let row = object_row c.args.n c.args.folder c.loop-object.object in
    pushed c.loop-object.rows.items c.push-in-loop-object.new.self.items c.in_ok-object_row.field-0 row c.in_ok-push-2.ensures.items c.in_ok-object_row.ensures
    ∙ ap (λ rows. rows ++ row ∷ []) c.loop-object.invariant
    ∙ append_assoc old (objects_so_far c.args.n c.args.folder c.loop-object.object) (row ∷ [])
    ∙ ap (λ rows. old ++ rows) (sym (object_more c.args.n c.args.folder c.loop-object.object))

pub returns : goal.returns
returns c = record {
  rows_go_last =
      let old = map view c.args.rows.now.items in
      let all : c.loop-object.object ≡ 64 = omega arith in
      c.loop-object.invariant ∙ ap (λ count. old ++ objects_so_far c.args.n c.args.folder count) all
      ∙ ap (λ rows. old ++ rows) (all_objects c.args.n c.args.folder);
}
