use Rattle.std.proofs.Common.{◌≡◌, ◌∷◌, [], drop, map}
use Rattle.std.specs.List.{Contains}
use Rattle.std.specs.String.{string_bytes}
use Rattle.dropin_merge.specs.Steps.{IsLedBy}
use Rattle.host_io.specs.Agreeing.{ForFiles}
use Rattle.host_io.specs.Files.{Files}
use Rattle.host_io.proofs.Calling.{Going}
use Rattle.dropin_merge.specs.Asking.{dropin_asks}
use Rattle.dropin_merge.specs.Resolving.{dropins_read, joined_by}
use Rattle.dropin_merge.proofs.dropins.read_dropins.Given as goal

abbrev pub invariant-loop-path : goal.invariant-loop-path
invariant-loop-path g l = record {
  answers : ForFiles (g.S.Shelf.agrees l.shelf) (g.S.Shelf.agrees l.fn.shelf);
  stays : g.S.Shelf.faults l.shelf ≡ g.S.Shelf.faults l.fn.shelf;
  left : (files : Files) → g.S.Shelf.agrees l.shelf files
      → joined_by l.files.items (dropins_read files (map string_bytes (drop l.path-index l.paths)))
      ≡ joined_by (l.fn.fragment ∷ []) (dropins_read files (map string_bytes l.paths));
  led : IsLedBy (λ file. Contains (map string_bytes l.paths) file.path) l.fn.fragment l.path-index l.files.items;
  asks : (files : Files) → g.S.Shelf.agrees l.shelf files
      → Going g.S.Shelf.asks l.fn.shelf l.shelf (dropin_asks files (map string_bytes l.paths))
      (dropin_asks files (map string_bytes (drop l.path-index l.paths)));
}
