-- The assignments of a service that share the bucket of a key, one after the other.
use Rattle.std.specs.Prelude.{List, ◌++◌, Option}
use Rattle.std.specs.Borrow.{Bor}
use Rattle.std.specs.Iterator.{YieldsFirstBy}
use Rattle.std.specs.List.{filter_map}
use Rattle.unit_grammar.specs.declared.unit.Assignment.{Assignment}
use Rattle.dropin_merge.specs.declared.unit_values.value.Place.{Place}
use Rattle.dropin_merge.specs.declared.unit_values.keyed.KeyAssignments.{KeyAssignments}
use Rattle.dropin_merge.specs.unit_values.Walk.{assignments_left}
use Rattle.dropin_merge.specs.Spots.{assignment_at}

-- the assignments at the spots that are left, and those of a walk over all files
abbrev pub key_left : KeyAssignments → List (Place × Assignment)
key_left walk = filter_map (assignment_at walk.files.now) walk.spots.now ++ assignments_left walk.others

abbrev pub GivesFirstOfKey : KeyAssignments → Option (Place × Bor Assignment) → KeyAssignments → Type 0
GivesFirstOfKey = YieldsFirstBy (λ one. (one.0, one.1.now)) key_left
