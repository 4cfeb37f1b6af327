-- Sets of scratch words pass to the places that follow an instruction.
use Rattle.std.proofs.Common.{◌≡◌, ℕ, zero, suc, ◌+◌, ◌<◌, ◌≤◌, true, false, List, length, Option, Some, None, refl, sym, ◌∙◌, subst, arith}
use Rattle.std.proofs.Common.{inl, inr}
use Rattle.std.specs.Prelude.{◌⊎◌, nat_lt, slice_index, bit_or, max}
use Rattle.std.specs.Int.{w16}
use borrow.Author.Tests.{ltb-true}
use Rattle.std.proofs.lemmas.Bool.{eqb-false}
use Rattle.std.proofs.lemmas.Bool.Decides.{eqb_tells}
use Rattle.std.proofs.lemmas.List.{get_or-set_same, get_or-set_other, length-set}
use Rattle.std.proofs.lemmas.Nat.Bits.{bit_at-lt, bit_at_or, bit_at_clear_same, bit_at_clear_other}
use Rattle.bpf_code.specs.declared.machine.Insn.{Insn}
use Rattle.bpf_code.specs.declared.ops.Op.{Op}
use Rattle.bpf_code.specs.declared.ops.Op.TheVariants.{LoadScratch, Store, Jump, JumpIf}
use Rattle.bpf_code.specs.Accepted.{Follows, stores, fault_by, is_scratch_load}
use Rattle.bpf_code.specs.Unstored.{Has, without_word, unstored_behind, joined, passed_on}
use Rattle.bpf_code.proofs.Runs.{unless_none}

-- unions
left_of_max : (m x y : ℕ) → m ≡ max x y → y < 2 → x ≡ 1 → m ≡ 1
left_of_max m x y e lt one = omega arith

right_of_max : (m x y : ℕ) → m ≡ max x y → x < 2 → y ≡ 1 → m ≡ 1
right_of_max m x y e lt one = omega arith

one_of_max : (m x y : ℕ) → m ≡ max x y → x < 2 → y < 2 → m ≡ 1 → (x ≡ 1) ⊎ (y ≡ 1)
one_of_max m zero y e lx ly one = inr (omega arith)
one_of_max m (suc zero) y e lx ly one = inl refl
one_of_max m (suc (suc x)) y e lx ly one = absurd (omega arith)

has_left : (a b word : ℕ) → Has a word → Has (bit_or a b) word
has_left a b word h = left_of_max _ _ _ (bit_at_or a b word) (bit_at-lt b word) h

has_right : (a b word : ℕ) → Has b word → Has (bit_or a b) word
has_right a b word h = right_of_max _ _ _ (bit_at_or a b word) (bit_at-lt a word) h

has_either : (a b word : ℕ) → Has (bit_or a b) word → Has a word ⊎ Has b word
has_either a b word h = one_of_max _ _ _ (bit_at_or a b word) (bit_at-lt a word) (bit_at-lt b word) h

-- one place gets more words
pub length-joined : (marks : List ℕ) (at words : ℕ) → length (joined marks at words) ≡ length marks
length-joined marks at words = length-set marks at _

joined_same : (marks : List ℕ) (at words : ℕ) → at < length marks
    → slice_index (joined marks at words) at ≡ bit_or (slice_index marks at) words
joined_same marks at words lt = get_or-set_same marks at _ 0 lt

joined_other : (marks : List ℕ) (at words to : ℕ) → (to ≡ at → ⊥) → slice_index (joined marks at words) to ≡ slice_index marks to
joined_other marks at words to ne = get_or-set_other marks at to _ 0 ne

pub joined_keeps : (marks : List ℕ) (at words to word : ℕ) → to < length marks → Has (slice_index marks to) word
    → Has (slice_index (joined marks at words) to) word
joined_keeps marks at words to word lt h =
    elim (eqb_tells to at) [
      | inl same ↦ subst (λ i. Has (slice_index (joined marks at words) i) word) (sym same.1)
          (subst (λ n. Has n word) (sym (joined_same marks at words (subst (λ i. i < length marks) same.1 lt)))
          (has_left _ words word (subst (λ i. Has (slice_index marks i) word) same.1 h)))
      | inr other ↦ subst (λ n. Has n word) (sym (joined_other marks at words to other.1)) h
    ]

pub joined_gives : (marks : List ℕ) (at words word : ℕ) → at < length marks → Has words word
    → Has (slice_index (joined marks at words) at) word
joined_gives marks at words word lt h = subst (λ n. Has n word) (sym (joined_same marks at words lt))
    (has_right (slice_index marks at) words word h)

pub joined_from : (marks : List ℕ) (at words to word : ℕ) → to < length marks → Has (slice_index (joined marks at words) to) word
    → Has (slice_index marks to) word ⊎ ((to ≡ at) × Has words word)
joined_from marks at words to word lt h =
    elim (eqb_tells to at) [
      | inl same ↦ elim (has_either (slice_index marks at) words word
          (subst (λ n. Has n word) (joined_same marks at words (subst (λ i. i < length marks) same.1 lt))
          (subst (λ i. Has (slice_index (joined marks at words) i) word) same.1 h))) [
            | inl there ↦ inl (subst (λ i. Has (slice_index marks i) word) (sym same.1) there)
            | inr new ↦ inr (same.1, new)
          ]
      | inr other ↦ inl (subst (λ n. Has n word) (joined_other marks at words to other.1) h)
    ]

-- each place that follows an instruction gets more words
abbrev jump_place : Insn → ℕ → ℕ
jump_place insn at = at + 1 + insn.k

abbrev true_place : Insn → ℕ → ℕ
true_place insn at = at + 1 + insn.jt

abbrev false_place : Insn → ℕ → ℕ
false_place insn at = at + 1 + insn.jf

pub length-passed_on : (op : Option Op) (insn : Insn) (at words : ℕ) (marks : List ℕ)
    → length (passed_on op insn at words marks) ≡ length marks
length-passed_on (Some Jump) insn at words marks = length-joined marks (jump_place insn at) words
length-passed_on (Some (JumpIf t o)) insn at words marks = length-joined (joined marks (true_place insn at) words)
    (false_place insn at) words ∙ length-joined marks (true_place insn at) words
length-passed_on op insn at words marks = length-joined marks (at + 1) words

-- the marks of the places so far stay
pub passed_on_stays : (op : Option Op) (insn : Insn) (at words : ℕ) (marks : List ℕ) (to : ℕ) → to ≤ at
    → slice_index (passed_on op insn at words marks) to ≡ slice_index marks to
passed_on_stays (Some Jump) insn at words marks to le = joined_other marks (jump_place insn at) words to (λ e. absurd (omega arith))
passed_on_stays (Some (JumpIf t o)) insn at words marks to le =
    joined_other (joined marks (true_place insn at) words) (false_place insn at) words to (λ e. absurd (omega arith))
    ∙ joined_other marks (true_place insn at) words to (λ e. absurd (omega arith))
passed_on_stays op insn at words marks to le = joined_other marks (at + 1) words to (λ e. absurd (omega arith))

pub passed_on_keeps : (op : Option Op) (insn : Insn) (at words : ℕ) (marks : List ℕ) (to word : ℕ) → to < length marks
    → Has (slice_index marks to) word → Has (slice_index (passed_on op insn at words marks) to) word
passed_on_keeps (Some Jump) insn at words marks to word lt h = joined_keeps marks (jump_place insn at) words to word lt h
passed_on_keeps (Some (JumpIf t o)) insn at words marks to word lt h =
    joined_keeps (joined marks (true_place insn at) words) (false_place insn at) words to word
    (subst (λ n. to < n) (sym (length-joined marks (true_place insn at) words)) lt)
    (joined_keeps marks (true_place insn at) words to word lt h)
passed_on_keeps op insn at words marks to word lt h = joined_keeps marks (at + 1) words to word lt h

given_at : (marks : List ℕ) (at words to word : ℕ) → to ≡ at → to < length marks → Has words word
    → Has (slice_index (joined marks at words) to) word
given_at marks at words to word e lt h =
    subst (λ i. Has (slice_index (joined marks at words) i) word) (sym e)
    (joined_gives marks at words word (subst (λ i. i < length marks) e lt) h)

pub passed_on_gives : (op : Option Op) (insn : Insn) (at words : ℕ) (marks : List ℕ) (to word : ℕ) → to < length marks
    → Follows op insn at to → Has words word → Has (slice_index (passed_on op insn at words marks) to) word
passed_on_gives (Some Jump) insn at words marks to word lt follows h = given_at marks (jump_place insn at) words to word follows lt h
passed_on_gives (Some (JumpIf t o)) insn at words marks to word lt (inl follows) h =
    joined_keeps (joined marks (true_place insn at) words) (false_place insn at) words to word
    (subst (λ n. to < n) (sym (length-joined marks (true_place insn at) words)) lt)
    (given_at marks (true_place insn at) words to word follows lt h)
passed_on_gives (Some (JumpIf t o)) insn at words marks to word lt (inr follows) h =
    given_at (joined marks (true_place insn at) words) (false_place insn at) words to word follows
    (subst (λ n. to < n) (sym (length-joined marks (true_place insn at) words)) lt) h
passed_on_gives op insn at words marks to word lt follows h = given_at marks (at + 1) words to word follows lt h

pub passed_on_from : (op : Option Op) (insn : Insn) (at words : ℕ) (marks : List ℕ) (to word : ℕ) → to < length marks
    → Has (slice_index (passed_on op insn at words marks) to) word
    → Has (slice_index marks to) word ⊎ (Follows op insn at to × Has words word)
passed_on_from (Some Jump) insn at words marks to word lt h = joined_from marks (jump_place insn at) words to word lt h
passed_on_from (Some (JumpIf t o)) insn at words marks to word lt h =
    elim (joined_from (joined marks (true_place insn at) words) (false_place insn at) words to word
    (subst (λ n. to < n) (sym (length-joined marks (true_place insn at) words)) lt) h) [
      | inl before ↦ elim (joined_from marks (true_place insn at) words to word lt before)
          [ inl there ↦ inl there | inr new ↦ inr (inl new.0, new.1) ]
      | inr new ↦ inr (inr new.0, new.1)
    ]
passed_on_from op insn at words marks to word lt h = joined_from marks (at + 1) words to word lt h

-- the places that follow an instruction are later ones
pub follows_later : (op : Option Op) (insn : Insn) (at to : ℕ) → Follows op insn at to → at < to
follows_later (Some Jump) insn at to follows = omega arith
follows_later (Some (JumpIf t o)) insn at to (inl follows) = omega arith
follows_later (Some (JumpIf t o)) insn at to (inr follows) = omega arith
follows_later op insn at to follows = omega arith

zero_or_one : (n : ℕ) → n ≡ 0 → n ≡ 1 → ⊥
zero_or_one n e h = absurd (omega arith)

cleared : (words k word : ℕ) → k < 16 → k ≡ word → Has (without_word words k) word → ⊥
cleared words k word small e h =
    let gone = bit_at_clear_same w16 words k small in
    let there : Has (without_word words k) k = subst (Has (without_word words k)) (sym e) h in
    zero_or_one _ gone there

-- the words that are unstored after an instruction
pub behind_from : (op : Option Op) (insn : Insn) (left words word : ℕ) → fault_by op insn left ≡ None → word < 16
    → Has (unstored_behind op insn words) word → Has words word × (stores op insn word ≡ false)
behind_from (Some (Store r)) insn left words word fine lt h =
    let small : insn.k < 16 = ltb-true _ _ (unless_none (nat_lt insn.k 16) _ fine) in
    elim (eqb_tells insn.k word) [
      | inl same ↦ absurd (cleared words insn.k word small same.1 h)
      | inr other ↦ (sym (bit_at_clear_other w16 words insn.k small word lt (λ e. other.1 (sym e))) ∙ h, other.0)
    ]
behind_from op insn left words word fine lt h = (h, refl)

pub behind_gives : (op : Option Op) (insn : Insn) (left words word : ℕ) → fault_by op insn left ≡ None → word < 16 → Has words word
    → stores op insn word ≡ false → Has (unstored_behind op insn words) word
behind_gives (Some (Store r)) insn left words word fine lt h other =
    let small : insn.k < 16 = ltb-true _ _ (unless_none (nat_lt insn.k 16) _ fine) in
    bit_at_clear_other w16 words insn.k small word lt (λ e. eqb-false insn.k word other (sym e)) ∙ h
behind_gives op insn left words word fine lt h other = h

-- a load without a fault loads an existing scratch word
pub load_word_small : (op : Option Op) (insn : Insn) (left : ℕ) → fault_by op insn left ≡ None → is_scratch_load op ≡ true → insn.k < 16
load_word_small (Some (LoadScratch r)) insn left fine loads = ltb-true _ _ (unless_none (nat_lt insn.k 16) _ fine)
load_word_small op insn left fine loads = cc
