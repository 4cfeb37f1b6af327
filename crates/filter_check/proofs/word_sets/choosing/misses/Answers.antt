use Rattle.std.proofs.Common.{◌≡◌, ◌<◌, ◌^◌, ℕ, Bool, true, false, not, bit_and, sym, refl, arith}
use Rattle.std.specs.Prelude.{◌==◌}
use Rattle.std.proofs.lemmas.Bool.{OnTrue_from, both_ways}
use Rattle.filter_check.specs.word_sets.Conditions.{meets}
use Rattle.filter_check.specs.word_sets.Words.{is_in}
use Rattle.filter_check.proofs.Conditions.{no_word, apart_from}
use Rattle.filter_check.proofs.word_sets.choosing.misses.Goals as goal
use Rattle.filter_check.proofs.word_sets.choosing.misses.Goals.{else-condition-via-then-condition+else-low-condition, else-condition-via-else-condition}
use Rattle.filter_check.proofs.word_sets.choosing.misses.Goals.{else-condition-2-via-then-condition-2+else-condition-high, else-condition-2-via-else-condition-2}

not_true : (b : Bool) → not b ≡ true → b ≡ false
not_true true h = sym h
not_true false h = refl

pub returns-then-not-condition : goal.returns-then-not-condition
returns-then-not-condition c = λ word lt within. no_word c.args.condition c.args.cube c.greatest.result word
    (elim c.else-condition.branch [
      | else-condition-via-then-condition+else-low-condition w ↦ λ t less. let ge = w.if-low-condition.false in omega (arith, ge, less)
      | else-condition-via-else-condition w ↦ λ t less. both_ways c.args.condition.orders.below w.if-condition.false t
    ])
    (elim c.else-condition-2.branch [
      | else-condition-2-via-then-condition-2+else-condition-high w ↦ λ t less. let ge = w.if-condition-high.false in omega (arith, ge, less)
      | else-condition-2-via-else-condition-2 w ↦ λ t less. both_ways c.args.condition.orders.above w.if-condition-2.false t
    ])
    (λ t e f. both_ways c.args.condition.orders.equal (not_true c.args.condition.orders.equal c.if-not-condition.true) t) (c.greatest.ensures.covers word lt within) within

pub returns-then-condition-cube : goal.returns-then-condition-cube
returns-then-condition-cube c = OnTrue_from (not (bit_and c.args.condition.number c.args.cube.known == bit_and c.args.cube.bits c.args.condition.mask))
    ((word : ℕ) → word < 2 ^ 32 → is_in c.args.cube word ≡ true → meets c.args.condition word ≡ false) (λ other word lt within. no_word c.args.condition c.args.cube c.greatest.result word
    (elim c.else-condition.branch [
      | else-condition-via-then-condition+else-low-condition w ↦ λ t less. let ge = w.if-low-condition.false in omega (arith, ge, less)
      | else-condition-via-else-condition w ↦ λ t less. both_ways c.args.condition.orders.below w.if-condition.false t
    ])
    (elim c.else-condition-2.branch [
      | else-condition-2-via-then-condition-2+else-condition-high w ↦ λ t less. let ge = w.if-condition-high.false in omega (arith, ge, less)
      | else-condition-2-via-else-condition-2 w ↦ λ t less. both_ways c.args.condition.orders.above w.if-condition-2.false t
    ])
    (λ t e f. apart_from (bit_and c.args.condition.number c.args.cube.known) (bit_and c.args.cube.bits c.args.condition.mask) other e)
    (c.greatest.ensures.covers word lt within) within)

pub returns-else-condition-cube : goal.returns-else-condition-cube
returns-else-condition-cube c = OnTrue_from (not (bit_and c.args.condition.number c.args.condition.mask == c.args.condition.number))
    ((word : ℕ) → word < 2 ^ 32 → is_in c.args.cube word ≡ true → meets c.args.condition word ≡ false) (λ other word lt within. no_word c.args.condition c.args.cube c.greatest.result word
    (elim c.else-condition.branch [
      | else-condition-via-then-condition+else-low-condition w ↦ λ t less. let ge = w.if-low-condition.false in omega (arith, ge, less)
      | else-condition-via-else-condition w ↦ λ t less. both_ways c.args.condition.orders.below w.if-condition.false t
    ])
    (elim c.else-condition-2.branch [
      | else-condition-2-via-then-condition-2+else-condition-high w ↦ λ t less. let ge = w.if-condition-high.false in omega (arith, ge, less)
      | else-condition-2-via-else-condition-2 w ↦ λ t less. both_ways c.args.condition.orders.above w.if-condition-2.false t
    ])
    (λ t e f. apart_from (bit_and c.args.condition.number c.args.condition.mask) c.args.condition.number other f)
    (c.greatest.ensures.covers word lt within) within)
