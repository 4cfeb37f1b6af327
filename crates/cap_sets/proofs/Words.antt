-- Bounds on words of 41 bits.
use Rattle.std.proofs.Common.{◌≡◌, ℕ, ◌<◌, ◌≤◌, ◌^◌, ◌/◌, ◌*◌, ◌%◌, ◌∙◌, arith}
use Rattle.std.specs.Int.{bit_at}
use Rattle.std.specs.Int.RustNames.{bit_and, bit_or, bit_xor}
use Rattle.std.proofs.lemmas.Nat.{or_lt, xor_lt, and_le_l}
use Rattle.std.proofs.lemmas.Nat.Bits.{shr_and_one, bit_at_above}
use Rattle.std.proofs.Math.Pow.{pow-lt}
use Rattle.std.proofs.Math.Nat.{mod-eq_of_lt}

pub or_below : (a b : ℕ) → a < 2 ^ 41 → b < 2 ^ 41 → bit_or a b < 2 ^ 41
or_below = or_lt 41

pub and_below : (a b : ℕ) → a < 2 ^ 41 → bit_and a b < 2 ^ 41
and_below a b h = omega (arith, and_le_l a b)

pub minus_below : (a b : ℕ) → a < 2 ^ 41 → bit_xor a (bit_and a b) < 2 ^ 41
minus_below a b h = xor_lt 41 a (bit_and a b) h (and_below a b h)

pub shifted : (n i : ℕ) → bit_and (n / 2 ^ i) 1 ≡ bit_at n i
shifted = shr_and_one

pub shifted_out : (n i : ℕ) → n < 2 ^ 41 → 40 < i → bit_at n i ≡ 0
shifted_out n i h l = bit_at_above n 41 i h (omega arith)

pub single_below : (number : ℕ) → number ≤ 40 → (1 * 2 ^ number % 2 ^ 64 ≡ 2 ^ number) × (2 ^ number < 2 ^ 41)
single_below number h =
    let below : 2 ^ number < 2 ^ 41 = pow-lt {i = number} {j = 41} (omega arith) in
    let wide : 1 * 2 ^ number < 2 ^ 64 = omega arith in
    (mod-eq_of_lt wide ∙ omega arith, below)
