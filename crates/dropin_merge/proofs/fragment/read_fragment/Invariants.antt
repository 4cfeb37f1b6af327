use Rattle.std.proofs.Common.{◌≡◌, drop, map}
use Rattle.std.specs.String.{string_bytes}
use Rattle.host_io.specs.Agreeing.{ForFiles}
use Rattle.host_io.specs.Files.{Files}
use Rattle.host_io.proofs.Calling.{Going}
use Rattle.dropin_merge.specs.Asking.{fragment_asks}
use Rattle.dropin_merge.specs.Resolving.{fragment_of, fragment_read}
use Rattle.dropin_merge.proofs.fragment.read_fragment.Given as goal

abbrev pub invariant-loop-path : goal.invariant-loop-path
invariant-loop-path g l = record {
  answers : ForFiles (g.S.Shelf.agrees l.shelf) (g.S.Shelf.agrees l.fn.shelf);
  stays : g.S.Shelf.faults l.shelf ≡ g.S.Shelf.faults l.fn.shelf;
  left : (files : Files) → g.S.Shelf.agrees l.shelf files
      → fragment_read files (fragment_of files (map string_bytes (drop l.path-index l.paths)))
      ≡ fragment_read files (fragment_of files (map string_bytes l.paths));
  asks : (files : Files) → g.S.Shelf.agrees l.shelf files
      → Going g.S.Shelf.asks l.fn.shelf l.shelf (fragment_asks files (map string_bytes l.paths))
      (fragment_asks files (map string_bytes (drop l.path-index l.paths)));
}
