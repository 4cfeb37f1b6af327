use Rattle.std.proofs.Common.{◌≡◌, ◌∙◌, sym, rules}
use Rattle.std.specs.Bool.{Decides}
use Rattle.std.proofs.lemmas.Bool.{OnTrue_from}
use Rattle.std.proofs.lemmas.Slice.Eq.{slice_eq-Decides}
use Rattle.filter_check.specs.declared.word_sets.condition.Condition.{Condition}
use Rattle.filter_check.specs.contracts.word_sets.condition.ConditionPartialEq.TheImpl as conditions
use Rattle.filter_check.proofs.word_sets.set.WordSet.has_same_conditions.Goals as goal

decides : (a b : Condition) → Decides (conditions.eq-value.it a b) (a ≡ b)
decides a b = search rules

pub returns : goal.returns
returns c = record {
  same = OnTrue_from c.eq.result (c.args.self.now.conditions.items ≡ c.args.other.now.conditions.items)
      (λ t. sym c.as_slice.ensures.value ∙ (slice_eq-Decides decides c.as_slice.result.now c.as_slice-2.result.now c.eq.result c.eq.ensures).0 t
      ∙ c.as_slice-2.ensures.value);
}
