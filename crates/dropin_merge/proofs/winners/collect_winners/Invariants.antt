use Rattle.std.proofs.Common.{◌≡◌, drop, map}
use Rattle.std.specs.String.{string_bytes}
use Rattle.host_io.specs.Agreeing.{ForFiles}
use Rattle.host_io.specs.Files.{Files}
use Rattle.host_io.proofs.Calling.{Going}
use Rattle.dropin_merge.specs.Asking.{folder_asks}
use Rattle.dropin_merge.specs.Steps.{KeepsTo}
use Rattle.dropin_merge.proofs.Collected.{Collected}
use Rattle.dropin_merge.proofs.winners.collect_winners.Given as goal

abbrev pub invariant-loop-place : goal.invariant-loop-place
invariant-loop-place g l = record {
  answers : ForFiles (g.S.Shelf.agrees l.shelf) (g.S.Shelf.agrees l.fn.shelf);
  stays : g.S.Shelf.faults l.shelf ≡ g.S.Shelf.faults l.fn.shelf;
  collected : (files : Files) → g.S.Shelf.agrees l.shelf files
      → Collected files l.winners (map string_bytes (drop l.place-index l.places)) (map string_bytes l.places);
  kept : KeepsTo (map string_bytes l.places) l.winners;
  asks : (files : Files) → g.S.Shelf.agrees l.shelf files
      → Going g.S.Shelf.asks l.fn.shelf l.shelf (folder_asks files (map string_bytes l.places))
      (folder_asks files (map string_bytes (drop l.place-index l.places)));
}
