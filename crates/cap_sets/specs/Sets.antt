-- A set of capabilities (capabilities(7)) is a word: the set has the capability of a number if the bit of that number is on.
use Rattle.std.specs.Prelude.{◌≡◌, ℕ, ◌-◌, ◌^◌, Bool, true, ◌==◌}
use Rattle.std.specs.Int.{bit_at}
use Rattle.std.specs.Int.RustNames.{bit_and, bit_or, bit_xor}

-- whether the set has the capability of this number
unfoldable pub has : ℕ → ℕ → Bool
has set number = bit_at set number == 1

unfoldable pub none : ℕ
none = 0

-- the capabilities 0 to 40
unfoldable pub all : ℕ
all = 2 ^ 41 - 1

unfoldable pub single : ℕ → ℕ
single number = 2 ^ number

-- the capabilities of either set
unfoldable pub union : ℕ → ℕ → ℕ
union one other = bit_or one other

-- the capabilities of both sets
unfoldable pub cut : ℕ → ℕ → ℕ
cut one other = bit_and one other

-- the capabilities of the first set that the second lacks
unfoldable pub minus : ℕ → ℕ → ℕ
minus one other = bit_xor one (bit_and one other)

-- tests whether the second set has each capability of the first
unfoldable pub within : ℕ → ℕ → Bool
within one other = bit_and other one == one

-- the second set has each capability of the first
pub record IsWithin (one other : ℕ) : Type 0 where
  pub each : (number : ℕ) → has one number ≡ true → has other number ≡ true
