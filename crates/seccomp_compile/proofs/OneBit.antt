-- Numbers of one bit.
use Rattle.std.proofs.Common.{◌≡◌, zero, suc, ℕ, ◌+◌, ◌*◌, ◌/◌, ◌%◌, ◌^◌, ◌<◌, ◌≤◌, Bool, true, false, refl, sym, ap, ◌∙◌, subst, arith}
use Rattle.std.specs.Prelude.{not, ◌==◌, ◌&&◌, bit_and, count_ones}
use Rattle.std.specs.Int.{IsPowerOfTwo, bit_at}
use Rattle.std.proofs.lemmas.Bool.Decides.{nat_tests}
use Rattle.std.proofs.lemmas.Nat.{ones_cat, zero_from_ones, ones_le_self, pow_pos}
use Rattle.std.proofs.lemmas.Nat.Bits.{and_pow, bit_at-lt}
use Rattle.std.proofs.Math.Nat.{pow-suc}

pub and_parts : (b c : Bool) → (b && c) ≡ true → (b ≡ true) × (c ≡ true)
and_parts true c e = (refl, e)
and_parts false c e = cc

-- a number with one bit that is set is a power of two
by_lowest : (n lowest : ℕ) → n % 2 ≡ lowest → lowest < 2 → count_ones (n / 2) + count_ones (n % 2) ≡ 1
    → (count_ones (n / 2) ≡ 1 → IsPowerOfTwo (n / 2)) → IsPowerOfTwo n
unfolding lib.Count.ones
by_lowest n zero is lt ones half =
    let none : count_ones (n % 2) ≡ 0 = ap count_ones is in
    let power = half (omega arith) in
    (suc power.0, (let twice = pow-suc 2 power.0 in let same = power.1 in omega arith))
by_lowest n (suc lowest) is lt ones half =
    let last : n % 2 ≡ 1 = omega arith in
    let some : count_ones (n % 2) ≡ 1 = ap count_ones last in
    let none : n / 2 ≡ 0 = zero_from_ones (n / 2) (omega arith) in
    (0, omega arith)

power_within : (most n : ℕ) → n ≤ most → count_ones n ≡ 1 → IsPowerOfTwo n
power_within zero n le e = absurd (omega (arith, ones_le_self n))
power_within (suc most) n le e =
    let parts : n ≡ n / 2 * 2 ^ 1 + n % 2 = omega arith in
    let ones : count_ones (n / 2) + count_ones (n % 2) ≡ 1 = sym (ones_cat 1 (n / 2) (n % 2) (omega arith)) ∙ ap count_ones (sym parts) ∙ e in
    by_lowest n (n % 2) refl (omega arith) ones (λ half. power_within most (n / 2) (omega arith) half)

pub power_of_two : (n : ℕ) → count_ones n ≡ 1 → IsPowerOfTwo n
power_of_two n e = power_within n n (omega arith) e

times_bit : (bit power : ℕ) → bit ≤ 1 → 0 < power → (bit * power == power) ≡ not (bit * power == 0)
times_bit zero power le some = grind (arith, nat_tests)
times_bit (suc bit) power le some =
    let one : suc bit * power ≡ power = let first : suc bit ≡ 1 = omega arith in ap (λ n. n * power) first ∙ omega arith in
    subst (λ n. (n == power) ≡ not (n == 0)) (sym one) (grind (arith, nat_tests))

-- of a word and a bit all of the bit is left, or nothing
pub one_bit : (word k : ℕ) → (bit_and word (2 ^ k) == 2 ^ k) ≡ not (bit_and word (2 ^ k) == 0)
one_bit word k =
    subst (λ n. (n == 2 ^ k) ≡ not (n == 0)) (sym (and_pow word k))
    (times_bit (bit_at word k) (2 ^ k) (omega (arith, bit_at-lt word k)) (pow_pos k))
