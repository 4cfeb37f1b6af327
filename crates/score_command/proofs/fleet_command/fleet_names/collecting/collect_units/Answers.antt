use Rattle.std.proofs.Common.{[], ◌∙◌, map, String, Global}
use Rattle.std.specs.BTreeMap.{BTreeMap}
use Rattle.std.proofs.lemmas.Result.{err_from_is_err_and}
use Rattle.unit_inputs.specs.unit_names.Names.{Name}
use Rattle.score_command.proofs.FleetNamesAsked.{folder_cut, folder_more, folder_stops}
use Rattle.score_command.proofs.Taking.{collected_turn}
use Rattle.score_command.proofs.fleet_command.fleet_names.collecting.collect_units.Goals as goal

pub loop-folder-preserved : goal.loop-folder-preserved
loop-folder-preserved g c = record {
  answers = λ files agree. c.loop-folder.invariant.answers files (c.in_ok-names.ensures.answers_stay files agree);
  stays = c.in_ok-names.ensures.fault_rose.no_other_fault ∙ c.loop-folder.invariant.stays;
  collected = λ files known.
      collected_turn files (g.S.Shelf.agrees c.list_folder.new.shelf) c.loop-folder.units c.take_names.new.units c.args.folders.now
      c.loop-folder.folder-index (record { ref_ptr = (0, 0); now = [] })
      c.in_ok-names.names c.as_slice.result.now (map (λ folder. folder.now) c.args.folders.now)
      known c.loop-folder-test.true c.as_slice.ensures.value
      c.in_ok-names.ensures.lists_the_folder c.in_ok-take_names.ensures.takes_the_units (c.loop-folder.invariant.collected files (c.in_ok-names.ensures.answers_stay files known));
  asks =
      folder_more g.S.Shelf.asks (g.S.Shelf.agrees c.loop-folder.shelf)
      (g.S.Shelf.agrees c.list_folder.new.shelf) c.in_ok-names.ensures.answers_stay c.args.shelf.now c.loop-folder.shelf _ c.args.folders.now
      c.loop-folder.folder-index (record { ref_ptr = (0, 0); now = [] })
      c.loop-folder-test.true c.loop-folder.invariant.asks c.in_ok-names.names c.in_ok-names.ensures.lists_the_folder
      c.in_ok-names.ensures.asks_for_it;
}

pub returns-in_err-names-clause-asks_in_order : goal.returns-in_err-names-clause-asks_in_order
returns-in_err-names-clause-asks_in_order g c =
    let p = err_from_is_err_and c.from_residual.result c.from_residual.ensures.1 in
    rw (p.1, p.2)
    (folder_stops g.S.Shelf.asks (g.S.Shelf.agrees c.loop-folder.shelf)
    (g.S.Shelf.agrees c.list_folder.new.shelf) c.in_err-names.ensures.answers_stay c.args.shelf.now c.loop-folder.shelf _ c.args.folders.now
    c.loop-folder.folder-index (record { ref_ptr = (0, 0); now = [] })
    c.loop-folder-test.true c.loop-folder.invariant.asks (BTreeMap (String Global) Name) c.in_err-names.field-0.0
    c.in_err-names.ensures.lists_the_folder c.in_err-names.ensures.asks_for_it)

pub returns-in_err-take_names-clause-asks_in_order : goal.returns-in_err-take_names-clause-asks_in_order
returns-in_err-take_names-clause-asks_in_order g c =
    let p = err_from_is_err_and c.from_residual-in_err-take_names.result c.from_residual-in_err-take_names.ensures.1 in
    rw (p.1, p.2, c.in_err-take_names.ensures.only_memory_fails)
    (folder_cut g.S.Shelf.asks (g.S.Shelf.agrees c.loop-folder.shelf)
    (g.S.Shelf.agrees c.list_folder.new.shelf) c.in_ok-names.ensures.answers_stay c.args.shelf.now c.loop-folder.shelf _ c.args.folders.now
    c.loop-folder.folder-index (record { ref_ptr = (0, 0); now = [] })
    c.loop-folder-test.true c.loop-folder.invariant.asks c.in_ok-names.ensures.asks_for_it)
