use Rattle.dropin_merge.proofs.Sections.{same_assignments, same_values, same_notes, same_written}
use Rattle.dropin_merge.proofs.unit_values.laws.other_sections.Goals as goal

pub returns-clause-no_assignments : goal.returns-clause-no_assignments
returns-clause-no_assignments c = same_assignments

pub returns-clause-no_values : goal.returns-clause-no_values
returns-clause-no_values c = same_values

pub returns-clause-no_notes : goal.returns-clause-no_notes
returns-clause-no_notes c = same_notes

pub returns-clause-none_written : goal.returns-clause-none_written
returns-clause-none_written c = same_written
