use Rattle.std.proofs.Common.{◌≡◌, ◌++◌, List, Some, take}
use Rattle.std.specs.List.{slice_get}
use Rattle.unit_grammar.specs.declared.unit.Assignment.{Assignment}
use Rattle.dropin_merge.specs.declared.resolved.UnitFile.{UnitFile}
use Rattle.dropin_merge.specs.declared.unit_values.value.Place.{Place}
use Rattle.dropin_merge.specs.Spots.{HoldSpots}
use Rattle.dropin_merge.specs.unit_values.Service.{service_in}
use Rattle.dropin_merge.proofs.spots.add_file.Given as goal

abbrev pub invariant-loop-at : goal.invariant-loop-at
invariant-loop-at l = (files : List UnitFile) (ones : List (Place × Assignment)) → slice_get files l.number ≡ Some l.file
    → HoldSpots files ones l.fn.buckets.items
    → HoldSpots files (ones ++ service_in l.number (take l.at l.file.text.assignments)) l.buckets.items
