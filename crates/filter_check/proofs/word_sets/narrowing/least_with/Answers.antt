use Rattle.std.proofs.Common.{sym, ◌∙◌}
use Rattle.filter_check.proofs.Searching.{least_word, same_least, of_old}
use Rattle.filter_check.proofs.word_sets.narrowing.least_with.Goals as goal

pub returns-then-is_met_by : goal.returns-then-is_met_by
returns-then-is_met_by c = record {
  least = same_least c.args.conditions.now c.args.set.now.conditions.items c.args.condition c.args.set.now.least c.requires.more
      c.args.set.now.is_one c.args.set.now.is_least (sym c.is_met_by.ensures.by_the_word ∙ c.if-is_met_by.true);
}

pub least_of-requires : goal.least_of-requires
least_of-requires c = record {
  from = λ word wanted. c.args.set.now.is_least word wanted.0
      (of_old c.args.conditions.now c.args.set.now.conditions.items c.args.condition word c.requires.more wanted.2);
}

pub returns : goal.returns
returns c =
    record { least = least_word c.args.conditions.now c.all.result c.least_of.result c.all.ensures.every_word c.least_of.ensures.least }
