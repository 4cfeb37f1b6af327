use Rattle.std.proofs.Common.{arith}
use Rattle.dropin_merge.proofs.Spotting.{file_step, file_end}
use Rattle.dropin_merge.proofs.spots.add_file.Goals as goal

pub loop-at-preserved : goal.loop-at-preserved
loop-at-preserved c = λ files ones lies holds.
    file_step files ones c.loop-at.buckets.items c.add_assignment.new.buckets.items c.args.number c.args.file.now
    c.list-assignments.result.now c.loop-at.at c.index-assignments-at.result c.list-assignments.ensures.all_in_order lies
    c.loop-at-test.true c.index-assignments-at.is (c.loop-at.invariant files ones lies holds) c.in_ok-add_assignment.ensures

pub returns : goal.returns
returns c = λ files ones lies holds.
    file_end files ones c.loop-at.buckets.items c.args.number c.args.file.now c.list-assignments.result.now c.loop-at.at
    c.list-assignments.ensures.all_in_order (omega (arith, c.loop-at-test.false)) (c.loop-at.invariant files ones lies holds)
