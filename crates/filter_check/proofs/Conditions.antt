-- The words of a cube that can meet one condition, or all of several.
use Rattle.std.proofs.Common.{◌≡◌, ℕ, ◌+◌, ◌^◌, ◌<◌, ◌≤◌, Bool, true, false, not, ◌&&◌, List, [], ◌∷◌, ◌++◌, take, length, get_or, refl, sym, ap, ◌∙◌, subst, arith, inl, inr}
use Rattle.std.proofs.lemmas.List.{take_more}
use Rattle.std.specs.Prelude.{◌==◌, bit_and, if◌then◌else◌}
use Rattle.std.specs.Int.Bits.{and_self}
use Rattle.std.proofs.lemmas.Bool.{cases_lt, cases_eq, eqb-true, eq-eqb, ne_eqb, lt-ltb, le-ltb, and_parts, and_from, both_ways}
use Rattle.std.proofs.lemmas.Nat.{and_assoc, and_comm, and_le_l, and_le_r}
use Rattle.std.proofs.lemmas.List.Folds.{list_all-append}
use Rattle.filter_check.specs.declared.word_sets.known.Cube.{Cube}
use Rattle.filter_check.specs.declared.word_sets.condition.Condition.{Condition}
use Rattle.filter_check.specs.declared.word_sets.condition.Orders.{Orders}
use Rattle.filter_check.specs.declared.word_sets.choosing.Choice.{Choice}
use Rattle.filter_check.specs.declared.word_sets.choosing.Choice.TheVariants.{Meets, Misses, Splits}
use Rattle.filter_check.specs.word_sets.Conditions.{wants, meets, meets_all}
use Rattle.filter_check.specs.word_sets.Words.{is_in, is_set, IsChoice}
use Rattle.filter_check.proofs.Bits.{and_false, and_true, false_unless}

pub wants_below : (orders : Orders) (a b : ℕ) → a < b → wants orders a b ≡ orders.below
wants_below orders a b lt = ap (λ t. if t then orders.below else (if a == b then orders.equal else orders.above)) (lt-ltb a b lt)

pub wants_equal : (orders : Orders) (a b : ℕ) → a ≡ b → wants orders a b ≡ orders.equal
wants_equal orders a b e = ap (λ t. if t then orders.below else (if a == b then orders.equal else orders.above))
    (le-ltb a b (omega (arith, e)))
    ∙ ap (λ t. if t then orders.equal else orders.above) (eq-eqb a b e)

pub wants_above : (orders : Orders) (a b : ℕ) → b ≤ a → (a ≡ b → ⊥) → wants orders a b ≡ orders.above
wants_above orders a b le ne = ap (λ t. if t then orders.below else (if a == b then orders.equal else orders.above)) (le-ltb a b le)
    ∙ ap (λ t. if t then orders.equal else orders.above) (ne_eqb a b ne)

-- the known bits under a mask are the known bits of the masked word
under_known : (word known mask : ℕ) → bit_and (bit_and word known) mask ≡ bit_and (bit_and word mask) known
under_known word known mask = and_assoc mask word known ∙ ap (bit_and word) (and_comm known mask) ∙ sym (and_assoc known word mask)

-- No word of a cube meets a condition if no wanted order is within the bounds. No word is below the number if the least one is not, none
-- is above it if the greatest one is not, and none equals it if its known bits differ.
pub no_word : (condition : Condition) (cube : Cube) (greatest word : ℕ)
    → (condition.orders.below ≡ true → bit_and cube.bits condition.mask < condition.number → ⊥)
    → (condition.orders.above ≡ true → condition.number < bit_and greatest condition.mask → ⊥)
    → (condition.orders.equal ≡ true → bit_and condition.number cube.known ≡ bit_and cube.bits condition.mask
    → bit_and condition.number condition.mask ≡ condition.number → ⊥)
    → bit_and word greatest ≡ word → is_in cube word ≡ true → meets condition word ≡ false
no_word condition cube greatest word below above equal covers within =
    let mask = condition.mask in
    let number = condition.number in
    let masked = bit_and word mask in
    let bits : bit_and word cube.known ≡ cube.bits = eqb-true (bit_and word cube.known) cube.bits within in
    let known : bit_and cube.bits mask ≡ bit_and masked cube.known = ap (λ n. bit_and n mask) (sym bits) ∙ under_known word cube.known mask in
    let low : bit_and cube.bits mask ≤ masked = subst (λ n. n ≤ masked) (sym known) (and_le_l masked cube.known) in
    let high_is : bit_and word (bit_and greatest mask) ≡ masked = sym (and_assoc mask word greatest) ∙ ap (λ n. bit_and n mask) covers in
    let high : masked ≤ bit_and greatest mask = subst (λ n. n ≤ bit_and greatest mask) high_is (and_le_r word (bit_and greatest mask)) in
    elim (cases_lt masked number) [
      | inl lt ↦ wants_below condition.orders masked number lt
          ∙ false_unless condition.orders.below (λ t. below t (omega (arith, low, lt)))
      | inr le ↦ elim (cases_eq masked number) [
        | inl e ↦ wants_equal condition.orders masked number e
            ∙ false_unless condition.orders.equal (λ t. equal t (ap (λ n. bit_and n cube.known) (sym e) ∙ sym known)
            (ap (λ n. bit_and n mask) (sym e) ∙ and_assoc mask word mask ∙ ap (bit_and word) (and_self mask) ∙ e))
        | inr ne ↦ wants_above condition.orders masked number le ne
            ∙ false_unless condition.orders.above (λ t. above t (omega (arith, high, le, ne)))
      ]
    ]

-- one more condition
pub all_append : (before : List Condition) (condition : Condition) (word : ℕ)
    → meets_all (before ++ condition ∷ []) word ≡ (meets_all before word && meets condition word)
all_append before condition word = list_all-append (λ one. meets one word) before (condition ∷ [])
    ∙ ap (λ t. meets_all before word && t) (sym (and_true (meets condition word)))

pub choice_kept : (before : List Condition) (condition : Condition) (cube : Cube) (choice : Choice) → IsChoice before cube choice
    → meets condition cube.bits ≡ true → IsChoice (before ++ condition ∷ []) cube choice
choice_kept before condition cube Meets h met = all_append before condition cube.bits ∙ and_from _ _ h met
choice_kept before condition cube Misses h met = λ word lt within. all_append before condition word
    ∙ ap (λ t. t && meets condition word) (h word lt within)
choice_kept before condition cube (Splits place free) h met = h

pub choice_missed : (before : List Condition) (condition : Condition) (cube : Cube)
    → ((word : ℕ) → word < 2 ^ 32 → is_in cube word ≡ true → meets condition word ≡ false)
    → IsChoice (before ++ condition ∷ []) cube Misses
choice_missed before condition cube none = λ word lt within. all_append before condition word
    ∙ ap (λ t. meets_all before word && t) (none word lt within) ∙ sym (and_false (meets_all before word))

pub choice_still_missed : (before : List Condition) (condition : Condition) (cube : Cube) → IsChoice before cube Misses
    → IsChoice (before ++ condition ∷ []) cube Misses
choice_still_missed before condition cube h = λ word lt within. all_append before condition word
    ∙ ap (λ t. t && meets condition word) (h word lt within)

-- if the masked word of a condition is known and one word of a cube fails it, all do
pub known_missed : (condition : Condition) (cube : Cube) (word : ℕ) → bit_and word condition.mask ≡ bit_and cube.bits condition.mask
    → meets condition cube.bits ≡ false → meets condition word ≡ false
known_missed condition cube word e h = ap (λ n. wants condition.orders n condition.number) e ∙ h

-- the choice by one more condition of a list
pub next_choice : (conditions : List Condition) (i : ℕ) (d : Condition) (cube : Cube) (old new : Choice) → i < length conditions
    → IsChoice (take i conditions) cube old
    → ((before : List Condition) → IsChoice before cube old → IsChoice (before ++ get_or conditions i d ∷ []) cube new)
    → IsChoice (take (i + 1) conditions) cube new
next_choice conditions i d cube old new lt h more =
    subst (λ some. IsChoice some cube new) (sym (take_more conditions i d lt)) (more (take i conditions) h)

-- two numbers that differ by the test are not equal
pub apart_from : (a b : ℕ) → not (a == b) ≡ true → a ≡ b → ⊥
apart_from a b h e = both_ways (not (a == b)) (ap not (eq-eqb a b e)) h
