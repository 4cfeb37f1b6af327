-- Known bits of words, one at a time.
use Rattle.std.proofs.Common.{◌≡◌, ℕ, suc, ◌+◌, ◌-◌, ◌/◌, ◌*◌, ◌%◌, ◌^◌, ◌<◌, ◌≤◌, Bool, true, false, not, ◌&&◌, refl, sym, ◌∙◌, ap, subst, arith, inl, inr}
use Rattle.std.specs.Prelude.{◌==◌, bit_and, bit_or, min, max}
use Rattle.std.specs.Int.{bit_at, bit_not, leading_zeros, w32}
use Rattle.std.proofs.lemmas.Bool.{cases_eq, cases_lt, eqb-true, eq-eqb, eqb-false, ne_eqb, and_parts, and_from, both_ways}
use Rattle.std.proofs.lemmas.Nat.Bits.{bit_at_and, bit_at_or, bit_at_not, bit_at-lt, bit_at-zero, bit_at_above, bit_at-pow_same, bit_at_set_same, bit_at_set_other, same_from_bits}
use Rattle.std.proofs.lemmas.Nat.{and_le_r, leading_top, shr-shr}
use Rattle.std.proofs.Math.Nat.{div-eq_of_lt}
use Rattle.std.proofs.Math.Pow.{shr_mono}
use Rattle.filter_check.specs.word_sets.Words.{is_set, same}

pub same_bools : (a b : Bool) → (a ≡ true → b ≡ true) → (b ≡ true → a ≡ true) → a ≡ b
same_bools true true f g = refl
same_bools true false f g = sym (f refl)
same_bools false true f g = g refl
same_bools false false f g = refl

-- a bit that is not set is 0
pub unset : (word place : ℕ) → is_set word place ≡ false → bit_at word place ≡ 0
unset word place h = let one = eqb-false (bit_at word place) 1 h in let lt = bit_at-lt word place in grind (arith, one, lt)

min_zero : (a b : ℕ) → b ≡ 0 → min a b ≡ 0
min_zero a b e = omega arith

min_one : (a b : ℕ) → a < 2 → b ≡ 1 → min a b ≡ a
min_one a b lt e = omega arith

-- the known bits are the bits of the word
pub known_bit : (word known bits place : ℕ) → bit_and word known ≡ bits → bit_at known place ≡ 1 → bit_at word place ≡ bit_at bits place
known_bit word known bits place h one =
    sym (min_one (bit_at word place) (bit_at known place) (bit_at-lt word place) one) ∙ sym (bit_at_and word known place)
    ∙ ap (λ n. bit_at n place) h

pub clear_bit : (known bits place : ℕ) → bit_and bits known ≡ bits → bit_at known place ≡ 0 → bit_at bits place ≡ 0
clear_bit known bits place h e =
    ap (λ n. bit_at n place) (sym h) ∙ bit_at_and bits known place ∙ min_zero (bit_at bits place) (bit_at known place) e

-- one more place is known, and its bit is v
pub record Wider (known bits wide more place v : ℕ) : Type 0 where
  pub unknown : bit_at known place ≡ 0
  pub clear : bit_and bits known ≡ bits
  pub here : bit_at wide place ≡ 1
  pub elsewhere : (i : ℕ) → (i ≡ place → ⊥) → bit_at wide i ≡ bit_at known i
  pub bit : bit_at more place ≡ v
  pub others : (i : ℕ) → (i ≡ place → ⊥) → bit_at more i ≡ bit_at bits i

pub from_wider : (known bits wide more place v word : ℕ) → Wider known bits wide more place v → bit_and word wide ≡ more
    → bit_and word known ≡ bits
from_wider known bits wide more place v word w h = same_from_bits _ _ (λ i.
    elim (cases_eq i place) [
      | inl e ↦ subst (λ j. bit_at (bit_and word known) j ≡ bit_at bits j) (sym e)
          (bit_at_and word known place ∙ min_zero (bit_at word place) (bit_at known place) w.unknown
          ∙ sym (clear_bit known bits place w.clear w.unknown))
      | inr ne ↦ bit_at_and word known i ∙ ap (λ n. min (bit_at word i) n) (sym (w.elsewhere i ne)) ∙ sym (bit_at_and word wide i)
          ∙ ap (λ n. bit_at n i) h ∙ w.others i ne
    ])

pub to_wider : (known bits wide more place v word : ℕ) → Wider known bits wide more place v → bit_and word known ≡ bits
    → bit_at word place ≡ v → bit_and word wide ≡ more
to_wider known bits wide more place v word w h e = same_from_bits _ _ (λ i.
    elim (cases_eq i place) [
      | inl i_is ↦ subst (λ j. bit_at (bit_and word wide) j ≡ bit_at more j) (sym i_is)
          (bit_at_and word wide place ∙ min_one (bit_at word place) (bit_at wide place) (bit_at-lt word place) w.here ∙ e ∙ sym w.bit)
      | inr ne ↦ bit_at_and word wide i ∙ ap (λ n. min (bit_at word i) n) (w.elsewhere i ne) ∙ sym (bit_at_and word known i)
          ∙ ap (λ n. bit_at n i) h ∙ sym (w.others i ne)
    ])

pub wider_bit : (known bits wide more place v word : ℕ) → Wider known bits wide more place v → bit_and word wide ≡ more
    → bit_at word place ≡ v
wider_bit known bits wide more place v word w h = known_bit word wide more place h w.here ∙ w.bit

-- the two ways in which a place becomes known
pub wider_one : (known bits place : ℕ) → place < 32 → bit_at known place ≡ 0 → bit_and bits known ≡ bits
    → Wider known bits (bit_or known (1 * 2 ^ place % 2 ^ 32)) (bit_or bits (1 * 2 ^ place % 2 ^ 32)) place 1
wider_one known bits place lt unknown clear = record {
  unknown = unknown;
  clear = clear;
  here = bit_at_set_same w32 known place lt;
  elsewhere = λ i ne. bit_at_set_other w32 known place lt i ne;
  bit = bit_at_set_same w32 bits place lt;
  others = λ i ne. bit_at_set_other w32 bits place lt i ne;
}

pub wider_zero : (known bits place : ℕ) → place < 32 → bit_at known place ≡ 0 → bit_and bits known ≡ bits
    → Wider known bits (bit_or known (1 * 2 ^ place % 2 ^ 32)) bits place 0
wider_zero known bits place lt unknown clear = record {
  unknown = unknown;
  clear = clear;
  here = bit_at_set_same w32 known place lt;
  elsewhere = λ i ne. bit_at_set_other w32 known place lt i ne;
  bit = clear_bit known bits place clear unknown;
  others = λ i ne. refl;
}

-- its known bits are words of their own
pub wider_clear : (known bits wide more place v : ℕ) → Wider known bits wide more place v → bit_and more wide ≡ more
wider_clear known bits wide more place v w = same_from_bits _ _ (λ i.
    elim (cases_eq i place) [
      | inl e ↦ subst (λ j. bit_at (bit_and more wide) j ≡ bit_at more j) (sym e)
          (bit_at_and more wide place ∙ min_one (bit_at more place) (bit_at wide place) (bit_at-lt more place) w.here)
      | inr ne ↦ bit_at_and more wide i ∙ ap (λ n. min n (bit_at wide i)) (w.others i ne)
          ∙ ap (λ n. min (bit_at bits i) n) (w.elsewhere i ne)
          ∙ sym (bit_at_and bits known i) ∙ ap (λ n. bit_at n i) w.clear ∙ sym (w.others i ne)
    ])

pub same_is : (a b : Bool) → same a b ≡ true → a ≡ b
same_is true true h = refl
same_is true false h = sym h
same_is false false h = refl
same_is false true h = h

pub is_same : (a b : Bool) → a ≡ b → same a b ≡ true
is_same true true e = refl
is_same true false e = sym e
is_same false false e = refl
is_same false true e = e

pub not_same : (a b : Bool) → same a b ≡ false → a ≡ not b
not_same true true h = h
not_same true false h = refl
not_same false false h = sym h
not_same false true h = refl

-- a bit as a number
abbrev pub bit_of : Bool → ℕ
bit_of true = 1
bit_of false = 0

pub set_from : (word place : ℕ) (set : Bool) → bit_at word place ≡ bit_of set → is_set word place ≡ set
set_from word place true e = eq-eqb (bit_at word place) 1 e
set_from word place false e = ne_eqb (bit_at word place) 1 (λ one. absurd (omega (arith, e, one)))

pub set_to : (word place : ℕ) (set : Bool) → is_set word place ≡ set → bit_at word place ≡ bit_of set
set_to word place true e = eqb-true (bit_at word place) 1 e
set_to word place false e = unset word place e

pub in_wider : (known bits wide more place word : ℕ) (set : Bool) → Wider known bits wide more place (bit_of set)
    → (bit_and word wide == more) ≡ ((bit_and word known == bits) && same (is_set word place) set)
in_wider known bits wide more place word set w = same_bools _ _
    (λ h. let e = eqb-true (bit_and word wide) more h in
    and_from _ _ (eq-eqb (bit_and word known) bits (from_wider known bits wide more place (bit_of set) word w e))
    (is_same _ _ (set_from word place set (wider_bit known bits wide more place (bit_of set) word w e))))
    (λ h. let p = and_parts (bit_and word known == bits) (same (is_set word place) set) h in
    eq-eqb (bit_and word wide) more
    (to_wider known bits wide more place (bit_of set) word w (eqb-true (bit_and word known) bits p.0)
    (set_to word place set (same_is _ _ p.1))))

pub one_known : (known bits place : ℕ) → place < 32 → is_set known place ≡ false → bit_and bits known ≡ bits
    → Wider known bits (bit_or known (1 * 2 ^ place % 2 ^ 32)) (bit_or bits (1 * 2 ^ place % 2 ^ 32)) place (bit_of true)
one_known known bits place lt unknown clear = wider_one known bits place lt (unset known place unknown) clear

pub zero_known : (known bits place : ℕ) → place < 32 → is_set known place ≡ false → bit_and bits known ≡ bits
    → Wider known bits (bit_or known (1 * 2 ^ place % 2 ^ 32)) bits place (bit_of false)
zero_known known bits place lt unknown clear = wider_zero known bits place lt (unset known place unknown) clear

pub and_false : (a : Bool) → false ≡ (a && false)
and_false true = refl
and_false false = refl

pub and_true : (a : Bool) → a ≡ (a && true)
and_true true = refl
and_true false = refl

pub false_unless : (b : Bool) → (b ≡ true → ⊥) → b ≡ false
false_unless true f = absurd (f refl)
false_unless false f = refl

-- if one more place is known, the known bits are a greater number
pub wider_more : (known bits wide more place v : ℕ) → Wider known bits wide more place v → known < wide
wider_more known bits wide more place v w =
    let inside : bit_and known wide ≡ known = same_from_bits _ _ (λ i.
    elim (cases_eq i place) [
      | inl e ↦ subst (λ j. bit_at (bit_and known wide) j ≡ bit_at known j) (sym e)
          (bit_at_and known wide place ∙ zero_min (bit_at known place) (bit_at wide place) w.unknown ∙ sym w.unknown)
      | inr ne ↦ bit_at_and known wide i ∙ ap (λ n. min (bit_at known i) n) (w.elsewhere i ne) ∙ min_self (bit_at known i)
    ]) in
    let le : known ≤ wide = subst (λ n. n ≤ wide) inside (and_le_r known wide) in
    elim (cases_lt known wide) [
      | inl lt ↦ lt
      | inr ge ↦
          let e : known ≡ wide = omega (arith, le, ge) in
          absurd (apart (bit_at known place) (bit_at wide place) w.unknown w.here (ap (λ n. bit_at n place) e))
    ]
  where
    zero_min : (a b : ℕ) → a ≡ 0 → min a b ≡ 0
    zero_min a b e = omega (arith, e)

    min_self : (a : ℕ) → min a a ≡ a
    min_self a = omega arith

    apart : (a b : ℕ) → a ≡ 0 → b ≡ 1 → a ≡ b → ⊥
    apart a b e f g = omega (arith, e, f, g)

-- the words of a cube have only bits that are known to be 1 or are not known
pub within_greatest : (known bits word : ℕ) → known < 2 ^ 32 → word < 2 ^ 32 → bit_and word known ≡ bits
    → bit_and word (bit_or bits (bit_not w32 known)) ≡ word
within_greatest known bits word small lt h = same_from_bits _ _ (λ i.
    elim (cases_lt i 32) [
      | inl below ↦ bit_at_and word (bit_or bits (bit_not w32 known)) i
          ∙ ap (λ n. min (bit_at word i) n) (bit_at_or bits (bit_not w32 known) i)
          ∙ covered (bit_at word i) (bit_at known i) (bit_at bits i) (bit_at (bit_not w32 known) i) (bit_at-lt word i) (bit_at-lt known i)
          (sym (ap (λ n. bit_at n i) h) ∙ bit_at_and word known i) (bit_at_not w32 known i small below)
      | inr above ↦
          let zero : bit_at word i ≡ 0 = bit_at_above word 32 i lt above in
          bit_at_and word (bit_or bits (bit_not w32 known)) i
          ∙ none (bit_at word i) (bit_at (bit_or bits (bit_not w32 known)) i) zero
    ])
  where
    covered : (w k b o : ℕ) → w < 2 → k < 2 → b ≡ min w k → o ≡ 1 - k → min w (max b o) ≡ w
    covered w k b o lw lk e f = omega (arith, lw, lk, e, f)

    none : (w o : ℕ) → w ≡ 0 → min w o ≡ w
    none w o e = omega (arith, e)

-- a free bit under a mask is not known
pub free_unknown : (mask known place : ℕ) → known < 2 ^ 32 → place < 32 → is_set (bit_and mask (bit_not w32 known)) place ≡ true
    → is_set known place ≡ false
free_unknown mask known place small lt set = set_from known place false
    (by (bit_at mask place) (bit_at (bit_not w32 known) place) (bit_at known place) (bit_at (bit_and mask (bit_not w32 known)) place)
    (bit_at_and mask (bit_not w32 known) place) (bit_at_not w32 known place small lt)
    (eqb-true (bit_at (bit_and mask (bit_not w32 known)) place) 1 set))
  where
    by : (m o k f : ℕ) → f ≡ min m o → o ≡ 1 - k → f ≡ 1 → k ≡ 0
    by m o k f e n one = omega (arith, e, n, one)

-- if no bit under a mask is free, the words of a cube are one word under the mask
pub none_free : (mask known word bits : ℕ) → mask < 2 ^ 32 → known < 2 ^ 32 → bit_and mask (bit_not w32 known) ≡ 0
    → bit_and word known ≡ bits → bit_and word mask ≡ bit_and bits mask
none_free mask known word bits small known_small free h = same_from_bits _ _ (λ i.
    elim (cases_lt i 32) [
      | inl lt ↦ bit_at_and word mask i
          ∙ under (bit_at mask i) (bit_at known i) (bit_at word i) (bit_at bits i) (bit_at (bit_not w32 known) i) (bit_at-lt mask i)
          (bit_at-lt known i) (bit_at-lt word i) (sym (ap (λ n. bit_at n i) h) ∙ bit_at_and word known i)
          (bit_at_not w32 known i known_small lt)
          (sym (bit_at_and mask (bit_not w32 known) i) ∙ ap (λ n. bit_at n i) free ∙ bit_at-zero i)
          ∙ sym (bit_at_and bits mask i)
      | inr above ↦
          let zero : bit_at mask i ≡ 0 = bit_at_above mask 32 i small above in
          bit_at_and word mask i ∙ min_zero (bit_at word i) (bit_at mask i) zero
          ∙ sym (min_zero (bit_at bits i) (bit_at mask i) zero) ∙ sym (bit_at_and bits mask i)
    ])
  where
    under : (m k w b o : ℕ) → m < 2 → k < 2 → w < 2 → b ≡ min w k → o ≡ 1 - k → min m o ≡ 0 → min w m ≡ min b m
    under m k w b o lm lk lw e f z = omega (arith, lm, lk, lw, e, f, z)

-- the place of the highest 1
top_one : (n j : ℕ) → 2 ^ j ≤ n → n < 2 ^ suc j → bit_at n j ≡ 1
top_one n j le lt =
    let next : j + 1 ≡ suc j = omega arith in
    let over : n / 2 ^ (j + 1) ≡ 0 = div-eq_of_lt (subst (λ k. n < 2 ^ k) (sym next) lt) in
    let half : n / 2 ^ j ≡ 2 * (n / 2 ^ (j + 1)) + bit_at n j = halves n j in
    let some : 2 ^ j / 2 ^ j ≤ n / 2 ^ j = shr_mono j le in
    let one : bit_at (2 ^ j) j ≡ 1 = bit_at-pow_same j in
    by (2 ^ j / 2 ^ j) (n / 2 ^ j) (n / 2 ^ (j + 1)) (bit_at n j) one some half over (bit_at-lt n j)
  where
    halves : (n place : ℕ) → n / 2 ^ place ≡ 2 * (n / 2 ^ (place + 1)) + bit_at n place
    halves n place = let e : n / 2 ^ place / 2 ^ 1 ≡ n / 2 ^ (place + 1) = shr-shr n place 1 in omega (arith, e)

    by : (p q r b : ℕ) → p % 2 ≡ 1 → p ≤ q → q ≡ 2 * r + b → r ≡ 0 → b < 2 → b ≡ 1
    by p q r b odd le e zero small = omega (arith, odd, le, e, zero, small)

pub highest : (word : ℕ) → (word ≡ 0 → ⊥) → word < 2 ^ 32
    → (leading_zeros w32 word ≤ 31) × (31 - leading_zeros w32 word < 32) × (is_set word (31 - leading_zeros w32 word) ≡ true)
highest word some small =
    let t = leading_top 32 word (omega (arith, some)) small in
    let e : leading_zeros w32 word + suc t.0 ≡ 32 = t.1 in
    let is : 31 - leading_zeros w32 word ≡ t.0 = omega (arith, e) in
    (omega (arith, e), omega arith, subst (λ j. is_set word j ≡ true) (sym is) (set_from word t.0 true (top_one word t.0 t.2 t.3)))
