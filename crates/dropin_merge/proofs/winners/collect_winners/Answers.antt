use Rattle.std.proofs.Common.{String, Global, map, ◌∙◌}
use Rattle.std.specs.BTreeMap.{BTreeMap}
use Rattle.std.proofs.lemmas.Result.{err_from_is_err_and}
use Rattle.std.specs.String.{string_bytes}
use Rattle.dropin_merge.proofs.Collected.{collected_turn}
use Rattle.dropin_merge.proofs.Asking as asked
use Rattle.dropin_merge.proofs.Pathed.{contains_read}
use Rattle.dropin_merge.proofs.winners.collect_winners.Goals as goal

pub loop-place-preserved : goal.loop-place-preserved
loop-place-preserved g c = record {
  answers = λ files agree. c.loop-place.invariant.answers files (c.list_place.ensures.answers_stay files agree);
  stays = c.in_ok-names.ensures.no_other_fault ∙ c.loop-place.invariant.stays;
  collected = λ files e.
      collected_turn files (g.S.Shelf.agrees c.list_place.new.shelf) c.loop-place.winners c.take_names.new.winners c.args.places.now
      c.loop-place.place-index c.place-item.result
      c.as_str.result.now c.as_str-in-loop-place.result.now c.in_ok-names.names c.as_slice.result.now (map string_bytes c.args.places.now)
      e
      c.loop-place-test.true c.place-item.is c.as_str.ensures.value c.as_str-in-loop-place.ensures.value c.as_slice.ensures.value
      c.in_ok-names.ensures.lists_the_folder c.in_ok-take_names.ensures.first_wins (c.loop-place.invariant.collected files (c.in_ok-names.ensures.answers_stay files e));
  kept =
      c.in_ok-take_names.ensures.keeps_to_places (map string_bytes c.args.places.now)
      (contains_read c.args.places.now c.loop-place.place-index c.place-item.result c.as_str-in-loop-place.result.now c.loop-place-test.true c.place-item.is c.as_str-in-loop-place.ensures.value)
      c.loop-place.invariant.kept;
  asks =
      asked.folder_more g.S.Shelf.asks (g.S.Shelf.agrees c.loop-place.shelf)
      (g.S.Shelf.agrees c.list_place.new.shelf) c.in_ok-names.ensures.answers_stay c.args.shelf.now c.loop-place.shelf _ c.args.places.now
      c.loop-place.place-index c.place-item.result c.as_str.result.now
      c.loop-place-test.true c.place-item.is c.as_str.ensures.value c.in_ok-names.names c.in_ok-names.ensures.lists_the_folder
      c.in_ok-names.ensures.asks_for_it c.loop-place.invariant.asks;
}

pub returns-in_err-names-clause-asks_in_order : goal.returns-in_err-names-clause-asks_in_order
returns-in_err-names-clause-asks_in_order g c =
    let p = err_from_is_err_and c.from_residual.result c.from_residual.ensures.1 in
    rw (p.1, p.2)
    (asked.folder_stops g.S.Shelf.asks (g.S.Shelf.agrees c.loop-place.shelf)
    (g.S.Shelf.agrees c.list_place.new.shelf) c.in_err-names.ensures.answers_stay c.args.shelf.now c.loop-place.shelf _ c.args.places.now
    c.loop-place.place-index c.place-item.result c.as_str.result.now
    c.loop-place-test.true c.place-item.is c.as_str.ensures.value
    (BTreeMap (String Global) (String Global)) c.in_err-names.field-0.0 c.in_err-names.ensures.lists_the_folder
    c.in_err-names.ensures.asks_for_it c.loop-place.invariant.asks)

pub returns-in_err-take_names-clause-asks_in_order : goal.returns-in_err-take_names-clause-asks_in_order
returns-in_err-take_names-clause-asks_in_order g c =
    let p = err_from_is_err_and c.from_residual-in_err-take_names.result c.from_residual-in_err-take_names.ensures.1 in
    rw (p.1, p.2)
    (asked.folder_cut g.S.Shelf.asks (g.S.Shelf.agrees c.loop-place.shelf)
    (g.S.Shelf.agrees c.list_place.new.shelf) c.in_ok-names.ensures.answers_stay c.args.shelf.now c.loop-place.shelf _ c.args.places.now
    c.loop-place.place-index c.place-item.result c.as_str.result.now
    c.loop-place-test.true c.place-item.is c.as_str.ensures.value c.in_ok-names.ensures.asks_for_it c.loop-place.invariant.asks)
