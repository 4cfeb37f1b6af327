-- Quotients that are rounded up.
use Rattle.std.proofs.Common.{◌≡◌, ◌≤◌, ◌<◌, ◌+◌, ◌*◌, ℕ, ap, ◌∙◌, subst, arith}
use Rattle.std.specs.Prelude.{min}
use Rattle.std.specs.Int.{div_ceil}
use Rattle.std.proofs.Math.Nat.{lt_of_mul-lt-mul_right, mul-le-mul_right, mul_comm, add-mul, one-mul}
use Rattle.std.proofs.lemmas.Grind.{div_ceil_times}
use Rattle.exposure_score.specs.Arithmetic.{term, exposure, IsRoundedUp}

-- below the next multiple
below_next : (number divisor quotient other : ℕ) → quotient * divisor < number + divisor → number ≤ other * divisor → quotient ≤ other
below_next number divisor quotient other h enough =
    let next : (other + 1) * divisor ≡ other * divisor + divisor = add-mul other 1 divisor ∙ ap (λ n. other * divisor + n) (one-mul divisor) in
    let below : quotient * divisor < (other + 1) * divisor = omega arith in
    let q : quotient < other + 1 = lt_of_mul-lt-mul_right divisor below in
    omega arith

pub is_rounded_up : (number divisor : ℕ) → 0 < divisor → IsRoundedUp number divisor (div_ceil number divisor)
is_rounded_up number divisor some =
    let bounds = div_ceil_times number divisor some in
    record { enough = bounds.0; least = λ other enough. below_next number divisor (div_ceil number divisor) other bounds.1 enough }

pub only_one : (number divisor one other : ℕ) → IsRoundedUp number divisor one → IsRoundedUp number divisor other → one ≡ other
only_one number divisor one other first second =
    let low : one ≤ other = first.least other second.enough in
    let high : other ≤ one = second.least one first.enough in
    omega arith

pub term_is_rounded_up : (badness range weight : ℕ) → 0 < range → IsRoundedUp (min badness range * weight) range (term badness range weight)
term_is_rounded_up badness range weight some = is_rounded_up (min badness range * weight) range some

pub exposure_is_rounded_up : (terms weights : ℕ) → 0 < weights → IsRoundedUp (100 * terms) weights (exposure terms weights)
exposure_is_rounded_up terms weights some = is_rounded_up (100 * terms) weights some

min_below : (badness range : ℕ) → min badness range ≤ range
min_below badness range = omega arith

pub term_below : (badness range weight : ℕ) → 0 < range → term badness range weight ≤ weight
term_below badness range weight some =
    let part : min badness range * weight ≤ range * weight = mul-le-mul_right weight (min_below badness range) in
    (term_is_rounded_up badness range weight some).least weight
    (subst (λ (n : ℕ). min badness range * weight ≤ n) (mul_comm range weight) part)
