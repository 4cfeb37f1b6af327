use Rattle.std.proofs.Common.{◌≡◌, take, map}
use Rattle.std.specs.Prelude.{flat_map}
use Rattle.std.specs.String.{string_bytes}
use Rattle.dropin_merge.specs.Places.{in_locations}
use Rattle.dropin_merge.proofs.places.dropin_places.Given as goal

abbrev pub invariant-loop-folder : goal.invariant-loop-folder
invariant-loop-folder l = map string_bytes l.places.items ≡ flat_map in_locations (map string_bytes (take l.folder-index l.folder-items))
