use Rattle.filter_check.proofs.Conditions.{next_choice}
use Rattle.filter_check.proofs.word_sets.choosing.choose.Goals as goal

pub loop-condition-preserved : goal.loop-condition-preserved
loop-condition-preserved c = next_choice c.args.conditions.now c.loop-condition.condition-index _ c.args.cube c.loop-condition.chosen
    c.with_condition-chosen.result c.loop-condition-test.true c.loop-condition.invariant c.with_condition-chosen.ensures.chooses
