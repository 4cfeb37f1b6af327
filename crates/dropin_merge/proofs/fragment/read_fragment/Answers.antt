use Rattle.std.proofs.Common.{◌∙◌}
use Rattle.std.proofs.lemmas.Result.{err_from_is_err_and}
use Rattle.dropin_merge.proofs.Asking.{fragment_found, fragment_goes_on, fragment_more, fragment_says, fragment_stops, not_empty, not_said}
use Rattle.dropin_merge.proofs.fragment.read_fragment.Goals as goal

pub returns-in_err-file_at-clause-asks_in_order : goal.returns-in_err-file_at-clause-asks_in_order
returns-in_err-file_at-clause-asks_in_order g c =
    let p = err_from_is_err_and c.from_residual.result c.from_residual.ensures.1 in
    rw (p.1, p.2)
    (fragment_stops g.S.Shelf.asks (g.S.Shelf.agrees c.loop-path.shelf)
    (g.S.Shelf.agrees c.file_at.new.shelf) c.in_err-file_at.ensures.answers_stay c.args.shelf.now c.loop-path.shelf _ c.args.paths.now
    c.loop-path.path-index c.path-item.result c.as_str.result.now
    c.loop-path-test.true c.path-item.is c.as_str.ensures.value
    c.in_err-file_at.field-0.0 c.in_err-file_at.ensures.reads_the_file c.in_err-file_at.ensures.asks_for_it c.loop-path.invariant.asks)

pub returns-in-Empty-clause-asks_in_order : goal.returns-in-Empty-clause-asks_in_order
returns-in-Empty-clause-asks_in_order g c =
    fragment_found g.S.Shelf.asks (g.S.Shelf.agrees c.loop-path.shelf)
    (g.S.Shelf.agrees c.file_at.new.shelf) c.in_ok-file_at.ensures.answers_stay c.args.shelf.now c.loop-path.shelf _ c.args.paths.now
    c.loop-path.path-index c.path-item.result c.as_str.result.now
    c.loop-path-test.true c.path-item.is c.as_str.ensures.value
    c.in_ok-file_at.field-0 (not_empty c.in_ok-file_at.field-0 c.in-Empty.is) c.in_ok-file_at.ensures.reads_the_file
    c.in_ok-file_at.ensures.asks_for_it c.loop-path.invariant.asks

pub returns-in-Says-clause-reads_the_first : goal.returns-in-Says-clause-reads_the_first
returns-in-Says-clause-reads_the_first g c =
    fragment_says (g.S.Shelf.agrees c.loop-path.shelf) (g.S.Shelf.agrees c.file_at.new.shelf) c.in_ok-file_at.ensures.answers_stay c.args.paths.now
    c.loop-path.path-index c.path-item.result c.as_str.result.now c.loop-path-test.true c.path-item.is c.as_str.ensures.value
    c.loop-path.invariant.left
    c.in-Says.fragment (rw c.in-Says.is at c.in_ok-file_at.ensures.reads_the_file)

pub returns-in-Says-clause-asks_in_order : goal.returns-in-Says-clause-asks_in_order
returns-in-Says-clause-asks_in_order g c =
    fragment_found g.S.Shelf.asks (g.S.Shelf.agrees c.loop-path.shelf)
    (g.S.Shelf.agrees c.file_at.new.shelf) c.in_ok-file_at.ensures.answers_stay c.args.shelf.now c.loop-path.shelf _ c.args.paths.now
    c.loop-path.path-index c.path-item.result c.as_str.result.now
    c.loop-path-test.true c.path-item.is c.as_str.ensures.value
    c.in_ok-file_at.field-0 (not_said c.in_ok-file_at.field-0 c.in-Says.fragment c.in-Says.is) c.in_ok-file_at.ensures.reads_the_file
    c.in_ok-file_at.ensures.asks_for_it c.loop-path.invariant.asks

pub loop-path-preserved : goal.loop-path-preserved
loop-path-preserved g c = record {
  answers = λ files agree. c.loop-path.invariant.answers files (c.in_ok-file_at.ensures.answers_stay files agree);
  stays = c.in_ok-file_at.ensures.no_other_fault ∙ c.loop-path.invariant.stays;
  left = fragment_goes_on (g.S.Shelf.agrees c.loop-path.shelf) (g.S.Shelf.agrees c.file_at.new.shelf) c.in_ok-file_at.ensures.answers_stay c.args.paths.now
      c.loop-path.path-index c.path-item.result c.as_str.result.now c.loop-path-test.true c.path-item.is c.as_str.ensures.value
      c.loop-path.invariant.left
      (rw c.in-Missing.is at c.in_ok-file_at.ensures.reads_the_file);
  asks =
      fragment_more g.S.Shelf.asks (g.S.Shelf.agrees c.loop-path.shelf)
      (g.S.Shelf.agrees c.file_at.new.shelf) c.in_ok-file_at.ensures.answers_stay c.args.shelf.now c.loop-path.shelf _ c.args.paths.now
      c.loop-path.path-index c.path-item.result c.as_str.result.now
      c.loop-path-test.true c.path-item.is c.as_str.ensures.value
      (rw c.in-Missing.is at c.in_ok-file_at.ensures.reads_the_file) c.in_ok-file_at.ensures.asks_for_it c.loop-path.invariant.asks;
}
