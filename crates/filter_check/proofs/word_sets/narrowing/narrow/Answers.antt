use Rattle.std.proofs.Common.{[], ◌∷◌, ◌++◌, sym, ap, ◌∙◌}
use Rattle.filter_check.proofs.Searching.{more_is}
use Rattle.filter_check.proofs.word_sets.narrowing.narrow.Goals as goal

pub returns-in-None : goal.returns-in-None
returns-in-None c = record {
  those_that_meet = λ word lt. sym (c.in-None.ensures.least word lt)
      ∙ more_is c.as_slice-2.result.now c.args.set.now.conditions.items c.args.condition word
      (c.as_slice-2.ensures.value ∙ c.in_ok-conditions.ensures ∙ ap (λ all. all ++ c.args.condition ∷ []) c.as_slice.ensures.value);
}
