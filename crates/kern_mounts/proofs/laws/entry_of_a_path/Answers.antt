use Rattle.kern_mounts.proofs.Entries.{entry_stands, one_place, some_place, has_place}
use Rattle.kern_mounts.proofs.laws.entry_of_a_path.Goals as goal

pub returns-clause-has_one : goal.returns-clause-has_one
returns-clause-has_one c = λ table path holds. has_place table path holds.root

pub returns-clause-has_no_other : goal.returns-clause-has_no_other
returns-clause-has_no_other c = one_place

pub returns-clause-number_and_entry : goal.returns-clause-number_and_entry
returns-clause-number_and_entry c = entry_stands

pub returns-clause-has_a_number : goal.returns-clause-has_a_number
returns-clause-has_a_number c = some_place
