use Rattle.dropin_merge.proofs.Keyed.{bucket_has_all, all_has_all, same_values, same_notes, same_written}
use Rattle.dropin_merge.proofs.unit_values.keyed.assignments_of_key.Goals as goal

pub returns-in-Some-clause-all_values : goal.returns-in-Some-clause-all_values
returns-in-Some-clause-all_values c = same_values c.args.unit.now c.args.key.now _
    (bucket_has_all c.args.unit.now c.args.key.now _ _ _ c.list-files.ensures.all_in_order c.in-Some.ensures c.no_assignments.ensures)

pub returns-in-Some-clause-all_notes : goal.returns-in-Some-clause-all_notes
returns-in-Some-clause-all_notes c = same_notes c.args.unit.now c.args.key.now _
    (bucket_has_all c.args.unit.now c.args.key.now _ _ _ c.list-files.ensures.all_in_order c.in-Some.ensures c.no_assignments.ensures)

pub returns-in-Some-clause-all_written : goal.returns-in-Some-clause-all_written
returns-in-Some-clause-all_written c = same_written c.args.unit.now c.args.key.now _
    (bucket_has_all c.args.unit.now c.args.key.now _ _ _ c.list-files.ensures.all_in_order c.in-Some.ensures c.no_assignments.ensures)

pub returns-clause-all_values : goal.returns-clause-all_values
returns-clause-all_values c = same_values c.args.unit.now c.args.key.now _ (all_has_all c.args.unit.now c.args.key.now _ c.service_assignments.ensures.all_in_order)

pub returns-clause-all_notes : goal.returns-clause-all_notes
returns-clause-all_notes c = same_notes c.args.unit.now c.args.key.now _ (all_has_all c.args.unit.now c.args.key.now _ c.service_assignments.ensures.all_in_order)

pub returns-clause-all_written : goal.returns-clause-all_written
returns-clause-all_written c = same_written c.args.unit.now c.args.key.now _ (all_has_all c.args.unit.now c.args.key.now _ c.service_assignments.ensures.all_in_order)
