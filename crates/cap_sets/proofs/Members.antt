-- The results of the operations have their members, and sets have their order.
use Rattle.std.proofs.Common.{◌≡◌, ℕ, ◌+◌, ◌<◌, ◌%◌, Bool, true, false, arith, eqb, min, max, ap, sym, ◌∙◌}
use Rattle.std.specs.Prelude.{◌&&◌, ◌||◌, ◌==◌, not, nat_le}
use Rattle.std.specs.Int.{bit_at}
use Rattle.std.specs.Int.RustNames.{bit_and}
use Rattle.std.proofs.lemmas.Nat.Bits.{bit_at_and, bit_at_or, bit_at_xor, bit_at-lt, bit_at-zero, bit_at-pow_same, bit_at-pow_other}
use Rattle.std.proofs.lemmas.Nat.Bits.{bit_at_ones, bit_at_ones_above, same_from_bits}
use Rattle.std.proofs.lemmas.Bool.{eqb-true, eq-eqb}
use Rattle.std.proofs.lemmas.Bool.Decides.{nat_tests}
use Rattle.cap_sets.specs.Sets.{has, none, all, union, cut, minus, single, IsWithin, within}

bits_or : (x y : ℕ) → x < 2 → y < 2 → eqb (max x y) 1 ≡ (eqb x 1 || eqb y 1)
bits_or x y p q = grind (arith, nat_tests)

bits_and : (x y : ℕ) → x < 2 → y < 2 → eqb (min x y) 1 ≡ (eqb x 1 && eqb y 1)
bits_and x y p q = grind (arith, nat_tests)

bits_xor : (x y : ℕ) → x < 2 → y < 2 → eqb ((x + min x y) % 2) 1 ≡ (eqb x 1 && not (eqb y 1))
bits_xor x y p q = grind (arith, nat_tests)

pub has_union : (a b number : ℕ) → has (union a b) number ≡ (has a number || has b number)
unfolding has union
has_union a b number = ap (λ n. eqb n 1) (bit_at_or a b number) ∙ bits_or _ _ (bit_at-lt a number) (bit_at-lt b number)

pub has_cut : (a b number : ℕ) → has (cut a b) number ≡ (has a number && has b number)
unfolding has cut
has_cut a b number = ap (λ n. eqb n 1) (bit_at_and a b number) ∙ bits_and _ _ (bit_at-lt a number) (bit_at-lt b number)

pub has_minus : (a b number : ℕ) → has (minus a b) number ≡ (has a number && not (has b number))
unfolding has minus
has_minus a b number =
    ap (λ n. eqb n 1) (bit_at_xor a (bit_and a b) number ∙ ap (λ n. (bit_at a number + n) % 2) (bit_at_and a b number))
    ∙ bits_xor _ _ (bit_at-lt a number) (bit_at-lt b number)

pub has_none : (number : ℕ) → has none number ≡ false
unfolding has none
has_none number = ap (λ n. eqb n 1) (bit_at-zero number)

pub has_all : (number : ℕ) → has all number ≡ nat_le number 40
unfolding has all
has_all number = grind (arith, nat_tests, bit_at_ones 41 number, bit_at_ones_above 41 number)

pub has_single : (k number : ℕ) → has (single k) number ≡ (number == k)
unfolding has single
has_single k number = grind (arith, nat_tests, bit_at-pow_other k number, bit_at-pow_same k)

pub has_with : (a k number : ℕ) → has (union a (single k)) number ≡ (has a number || number == k)
has_with a k number = has_union a (single k) number ∙ ap (λ b. has a number || b) (has_single k number)

-- sets with the same members are the same word
bit_of : (a b i : ℕ) → eqb (bit_at a i) 1 ≡ eqb (bit_at b i) 1 → bit_at a i ≡ bit_at b i
bit_of a b i h = grind (arith, nat_tests, bit_at-lt a i, bit_at-lt b i)

pub same_sets : (a b : ℕ) → ((number : ℕ) → has a number ≡ has b number) → a ≡ b
unfolding has
same_sets a b h = same_from_bits a b (λ i. bit_of a b i (h i))

cut_is : (a b : ℕ) → within a b ≡ true → cut b a ≡ a
unfolding within cut
cut_is a b e = eqb-true (bit_and b a) a e

pub IsWithin-from_within : (a b : ℕ) → within a b ≡ true → IsWithin a b
IsWithin-from_within a b e =
    let same = cut_is a b e in
    record { each = λ number h. let k : has (cut b a) number ≡ has a number = ap (λ s. has s number) same in grind (arith, has_cut) }

cut_same : (a b : ℕ) → IsWithin a b → cut b a ≡ a
cut_same a b w = same_sets (cut b a) a (λ number. let h = w.each number in grind (arith, has_cut))

pub within-from_IsWithin : (a b : ℕ) → IsWithin a b → within a b ≡ true
unfolding within cut
within-from_IsWithin a b w = eq-eqb (bit_and b a) a (cut_same a b w)

-- ---- the order of sets
pub within_self : (a : ℕ) → IsWithin a a
within_self a = record { each = λ number h. h }

pub within_through : (a b c : ℕ) → IsWithin a b → IsWithin b c → IsWithin a c
within_through a b c p q = record { each = λ number h. q.each number (p.each number h) }

pub within_both : (a b : ℕ) → IsWithin a b → IsWithin b a → a ≡ b
within_both a b p q = sym (cut_same a b p) ∙ same_sets (cut b a) (cut a b)
    (λ number. has_cut b a number ∙ swap (has b number) (has a number) ∙ sym (has_cut a b number)) ∙ cut_same b a q
  where
    swap : (x y : Bool) → (x && y) ≡ (y && x)
    swap x y = grind arith

pub none_within : (a : ℕ) → IsWithin none a
none_within a = record { each = λ number h. grind (arith, has_none) }

pub cut_within_left : (a b c : ℕ) → IsWithin a c → IsWithin (cut a b) c
cut_within_left a b c p = record { each = λ number h. grind (arith, has_cut, p.each) }

pub cut_within_right : (a b c : ℕ) → IsWithin b c → IsWithin (cut a b) c
cut_within_right a b c p = record { each = λ number h. grind (arith, has_cut, p.each) }

pub within_cut : (a b c : ℕ) → IsWithin a b → IsWithin a c → IsWithin a (cut b c)
within_cut a b c p q = record { each = λ number h. grind (arith, has_cut, p.each, q.each) }

pub union_within : (a b c : ℕ) → IsWithin a c → IsWithin b c → IsWithin (union a b) c
union_within a b c p q = record { each = λ number h. grind (arith, has_union, p.each, q.each) }

pub within_union_left : (a b c : ℕ) → IsWithin a b → IsWithin a (union b c)
within_union_left a b c p = record { each = λ number h. grind (arith, has_union, p.each) }

pub within_union_right : (a b c : ℕ) → IsWithin a c → IsWithin a (union b c)
within_union_right a b c p = record { each = λ number h. grind (arith, has_union, p.each) }

pub minus_within : (a b c : ℕ) → IsWithin a c → IsWithin (minus a b) c
minus_within a b c p = record { each = λ number h. grind (arith, has_minus, p.each) }

pub single_within : (k a : ℕ) → has a k ≡ true → IsWithin (single k) a
single_within k a p = record { each = λ number h. let same : number ≡ k = eqb-true number k (sym (has_single k number) ∙ h) in grind arith }
