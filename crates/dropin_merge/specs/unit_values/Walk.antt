-- The assignments of a service, one after the other.
use Rattle.std.specs.Prelude.{List, ◌++◌, Option, drop}
use Rattle.std.specs.Borrow.{Bor}
use Rattle.std.specs.Iterator.{YieldsFirstBy}
use Rattle.unit_grammar.specs.declared.unit.Assignment.{Assignment}
use Rattle.dropin_merge.specs.declared.unit_values.value.Place.{Place}
use Rattle.dropin_merge.specs.declared.unit_values.assignments.ServiceAssignments.{ServiceAssignments}
use Rattle.dropin_merge.specs.unit_values.Assignments.{service_in, service_from}

-- the rest of the assignments of the current file, and the assignments of the files after it
abbrev pub assignments_left : ServiceAssignments → List (Place × Assignment)
assignments_left walk = service_in walk.file walk.left.now ++ service_from walk.begun (drop walk.begun walk.files.now)

abbrev pub GivesFirstAssignment : ServiceAssignments → Option (Place × Bor Assignment) → ServiceAssignments → Type 0
GivesFirstAssignment = YieldsFirstBy (λ one. (one.0, one.1.now)) assignments_left
