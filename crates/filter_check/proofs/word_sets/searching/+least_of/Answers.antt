use Rattle.filter_check.proofs.Searching.{told_before, least_meets, both_halves}
use Rattle.filter_check.proofs.word_sets.searching.+least_of.Goals as goal

pub returns-then-is_up_to : goal.returns-then-is_up_to
returns-then-is_up_to t c = record {
  least = told_before c.args.conditions.now c.args.cube c.least-word.result c.args.told c.least-word.ensures.is c.if-is_up_to.ensures.yes;
}

pub returns-in-Meets : goal.returns-in-Meets
returns-in-Meets t c = record {
  least = least_meets c.args.conditions.now c.args.cube c.least-word.result c.args.told c.least-word.ensures.is c.least-word.ensures.small
      c.args.cube.clear c.if-is_up_to.ensures.no c.in-Meets.ensures.chooses;
}

pub returns-in-Splits : goal.returns-in-Splits
returns-in-Splits t c = record {
  least = both_halves c.args.conditions.now c.args.cube c.with_bit.result c.with_bit-in-Splits.result c.in-Splits.place c.args.told
      c.least_of-least.result c.least_of.result c.with_bit.ensures.those_with_the_bit c.with_bit-in-Splits.ensures.those_with_the_bit
      c.least_of-least.ensures.least c.least_of.ensures.least;
}
