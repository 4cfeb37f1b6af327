use Rattle.std.proofs.Common.{◌≡◌, true, false, sym, ◌∙◌, bit_and}
use Rattle.std.proofs.lemmas.Bool.{eqb-true}
use Rattle.filter_check.proofs.Conditions.{choice_kept, choice_missed, known_missed}
use Rattle.filter_check.proofs.word_sets.choosing.with_condition.Goals as goal

pub returns-then-is_met_by : goal.returns-then-is_met_by
returns-then-is_met_by c = record {
  chooses = λ before h. choice_kept before c.args.condition c.args.cube c.args.chosen h
      (sym c.is_met_by.ensures.by_the_word ∙ c.if-is_met_by.true);
}

pub returns-then-misses : goal.returns-then-misses
returns-then-misses c = record { chooses = λ before h. choice_missed before c.args.condition c.args.cube c.if-misses.ensures }

pub returns-in-None : goal.returns-in-None
returns-in-None c = record {
  chooses = λ before h. choice_missed before c.args.condition c.args.cube (λ word lt within.
      known_missed c.args.condition c.args.cube word
      (c.free_bits-free.ensures.none c.in-None.ensures.none word c.args.cube.bits
      (eqb-true (bit_and word c.args.cube.known) c.args.cube.bits within))
      (sym c.is_met_by.ensures.by_the_word ∙ c.if-is_met_by.false));
}

pub returns-in-Some : goal.returns-in-Some
returns-in-Some c = record {
  chooses = λ before h. c.with_place.ensures.chooses before c.args.condition c.args.cube h c.in-Some.ensures.set.0
      (c.free_bits-free.ensures.unknown c.in-Some.place c.in-Some.ensures.set.0 c.in-Some.ensures.set.1);
}
