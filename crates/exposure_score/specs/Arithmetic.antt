-- What part of a weight counts, and of all weights.
use Rattle.std.specs.Prelude.{ℕ, ◌*◌, ◌≤◌, min}
use Rattle.std.specs.Int.{div_ceil}

-- the part of a weight that a badness, cut to the range, is of the range, rounded up
abbrev pub term : ℕ → ℕ → ℕ → ℕ
term badness range weight = div_ceil (min badness range * weight) range

-- the sum of terms in hundredths of the sum of weights, rounded up
abbrev pub exposure : ℕ → ℕ → ℕ
exposure terms weights = div_ceil (100 * terms) weights

-- the quotient, rounded up: the least number that is not below it
pub record IsRoundedUp (number divisor quotient : ℕ) : Type 0 where
  pub enough : number ≤ quotient * divisor
  pub least : (other : ℕ) → number ≤ other * divisor → quotient ≤ other
