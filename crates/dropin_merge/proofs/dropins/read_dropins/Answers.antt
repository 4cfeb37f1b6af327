use Rattle.std.proofs.Common.{◌≡◌, ◌++◌, ◌∷◌, [], map, sym, ◌∙◌, subst, append-nil, rules, List}
use Rattle.std.specs.List.{Contains}
use Rattle.std.specs.String.{string_bytes}
use Rattle.std.proofs.lemmas.Result.{err_from_is_err_and}
use Rattle.dropin_merge.specs.Resolving.{dropins_read, joined_by}
use Rattle.dropin_merge.specs.Steps.{file_in}
use Rattle.dropin_merge.specs.declared.files.Found.{Found}
use Rattle.dropin_merge.specs.declared.resolved.UnitFile.{UnitFile}
use Rattle.dropin_merge.proofs.Asking as asked
use Rattle.dropin_merge.proofs.Pathed.{contains_read, refuses_wider, led_next}
use Rattle.dropin_merge.proofs.Reading.{dropin_more, dropin_stops}
use Rattle.dropin_merge.proofs.dropins.read_dropins.Goals as goal
use Rattle.dropin_merge.proofs.dropins.read_dropins.Goals.{in-Says+in_ok-keep_file-2, in_default}

pub returns-in_err-dropin-clause-refuses_a_path : goal.returns-in_err-dropin-clause-refuses_a_path
returns-in_err-dropin-clause-refuses_a_path g c =
    let p = err_from_is_err_and c.from_residual-in_err-dropin.result c.from_residual-in_err-dropin.ensures.1 in
    rw (p.1, p.2)
    (refuses_wider Found (List UnitFile) (λ path. path ≡ c.as_str.result.now)
    (Contains (map string_bytes c.args.paths.now)) c.in_err-dropin.field-0.0
    (λ path same.
    subst (Contains (map string_bytes c.args.paths.now)) (sym same)
    (contains_read c.args.paths.now c.loop-path.path-index c.path-item.result c.as_str.result.now c.loop-path-test.true c.path-item.is
    c.as_str.ensures.value))
    c.in_err-dropin.ensures.refuses_the_path)

pub returns-in_err-dropin-clause-reads_in_order : goal.returns-in_err-dropin-clause-reads_in_order
returns-in_err-dropin-clause-reads_in_order g c =
    let p = err_from_is_err_and c.from_residual-in_err-dropin.result c.from_residual-in_err-dropin.ensures.1 in
    rw (p.1, p.2)
    (dropin_stops (g.S.Shelf.agrees c.loop-path.shelf) (g.S.Shelf.agrees c.file_at.new.shelf)
    (λ files. joined_by (c.args.fragment ∷ []) (dropins_read files (map string_bytes c.args.paths.now)))
    c.loop-path.files.items c.args.paths.now c.loop-path.path-index c.path-item.result c.as_str.result.now c.in_err-dropin.field-0.0
    c.in_err-dropin.ensures.answers_stay c.loop-path-test.true c.path-item.is c.as_str.ensures.value c.in_err-dropin.ensures.reads_the_file
    c.loop-path.invariant.left)

pub returns-in_err-dropin-clause-asks_in_order : goal.returns-in_err-dropin-clause-asks_in_order
returns-in_err-dropin-clause-asks_in_order g c =
    let p = err_from_is_err_and c.from_residual-in_err-dropin.result c.from_residual-in_err-dropin.ensures.1 in
    rw (p.1, p.2)
    (asked.dropin_stops g.S.Shelf.asks (g.S.Shelf.agrees c.loop-path.shelf)
    (g.S.Shelf.agrees c.file_at.new.shelf) c.in_err-dropin.ensures.answers_stay c.args.shelf.now c.loop-path.shelf _ c.args.paths.now
    c.loop-path.path-index c.path-item.result c.as_str.result.now
    c.loop-path-test.true c.path-item.is c.as_str.ensures.value c.in_err-dropin.field-0.0 c.in_err-dropin.ensures.reads_the_file
    c.in_err-dropin.ensures.asks_for_it c.loop-path.invariant.asks)

pub loop-path-preserved : goal.loop-path-preserved
loop-path-preserved g c =
    let made : c.match-branch-3.files.items ≡ c.loop-path.files.items ++ file_in c.in_ok-dropin.field-0 =
    elim c.match-branch-3.branch [ in-Says+in_ok-keep_file-2 w ↦ search rules | in_default w ↦ search (rules, append-nil) ] in
    record {
      answers = λ files agree. c.loop-path.invariant.answers files (c.in_ok-dropin.ensures.answers_stay files agree);
      stays = c.in_ok-dropin.ensures.no_other_fault ∙ c.loop-path.invariant.stays;
      left = λ files e.
          dropin_more files (g.S.Shelf.agrees c.file_at.new.shelf) c.loop-path.files.items c.match-branch-3.files.items c.args.paths.now
          c.loop-path.path-index c.path-item.result c.as_str.result.now c.in_ok-dropin.field-0 _
          e c.loop-path-test.true c.path-item.is c.as_str.ensures.value
          c.in_ok-dropin.ensures.reads_the_file made (c.loop-path.invariant.left files (c.in_ok-dropin.ensures.answers_stay files e));
      led =
          led_next c.args.fragment (map string_bytes c.args.paths.now) c.loop-path.path-index c.loop-path.files.items c.match-branch-3.files.items
          c.in_ok-dropin.field-0 c.as_str.result.now
          c.loop-path.invariant.led c.in_ok-dropin.ensures.has_the_path
          (contains_read c.args.paths.now c.loop-path.path-index c.path-item.result c.as_str.result.now c.loop-path-test.true
          c.path-item.is c.as_str.ensures.value)
          made;
      asks =
          asked.dropin_more g.S.Shelf.asks (g.S.Shelf.agrees c.loop-path.shelf)
          (g.S.Shelf.agrees c.file_at.new.shelf) c.in_ok-dropin.ensures.answers_stay c.args.shelf.now c.loop-path.shelf _ c.args.paths.now
          c.loop-path.path-index c.path-item.result c.as_str.result.now
          c.loop-path-test.true c.path-item.is c.as_str.ensures.value c.in_ok-dropin.field-0 c.in_ok-dropin.ensures.reads_the_file
          c.in_ok-dropin.ensures.asks_for_it c.loop-path.invariant.asks;
    }

pub returns-in_err-keep_file-2-clause-asks_in_order : goal.returns-in_err-keep_file-2-clause-asks_in_order
returns-in_err-keep_file-2-clause-asks_in_order g c =
    let p = err_from_is_err_and c.from_residual-in_err-keep_file-2.result c.from_residual-in_err-keep_file-2.ensures.1 in
    rw (p.1, p.2)
    (asked.dropin_cut g.S.Shelf.asks (g.S.Shelf.agrees c.loop-path.shelf)
    (g.S.Shelf.agrees c.file_at.new.shelf) c.in_ok-dropin.ensures.answers_stay c.args.shelf.now c.loop-path.shelf _ c.args.paths.now
    c.loop-path.path-index c.path-item.result c.as_str.result.now
    c.loop-path-test.true c.path-item.is c.as_str.ensures.value c.in_ok-dropin.field-0 c.in_ok-dropin.ensures.reads_the_file
    c.in_ok-dropin.ensures.asks_for_it c.loop-path.invariant.asks)
