use Rattle.std.proofs.Common.{◌≡◌, drop, map}
use Rattle.unit_inputs.specs.host_io.Agreeing.{ForFiles}
use Rattle.unit_inputs.specs.host_io.Files.{Files}
use Rattle.score_command.proofs.FleetNamesAsked.{GoesThrough}
use Rattle.score_command.proofs.Taking.{Collected}
use Rattle.score_command.proofs.fleet_command.fleet_names.collecting.collect_units.Given as goal

abbrev pub invariant-loop-folder : goal.invariant-loop-folder
invariant-loop-folder g l = record {
  answers : ForFiles (g.S.Shelf.agrees l.shelf) (g.S.Shelf.agrees l.fn.shelf);
  stays : g.S.Shelf.faults l.shelf ≡ g.S.Shelf.faults l.fn.shelf;
  collected : (files : Files) → g.S.Shelf.agrees l.shelf files
      → Collected files l.units (map (λ folder. folder.now) (drop l.folder-index l.folders)) (map (λ folder. folder.now) l.folders);
  asks : (files : Files) → g.S.Shelf.agrees l.shelf files
      → GoesThrough g.S.Shelf.asks l.fn.shelf l.shelf l.folders l.folder-index files;
}
