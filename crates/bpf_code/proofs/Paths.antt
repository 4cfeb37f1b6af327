-- Some paths do not store a scratch word, and the marks find them.
use Rattle.std.proofs.Common.{◌≡◌, ℕ, ◌+◌, ◌<◌, ◌≤◌, true, false, List, length, Some, None, refl, sym, ap, ◌∙◌, subst, arith, inl, inr}
use Rattle.std.specs.Prelude.{slice_get, slice_index, replicate}
use Rattle.std.proofs.lemmas.Option.{slice_get_within}
use Rattle.std.proofs.lemmas.List.{get_or-replicate, length-replicate}
use Rattle.std.proofs.lemmas.Nat.Bits.{bit_at-zero, bit_at_ones}
use Rattle.bpf_code.specs.declared.machine.Insn.{Insn}
use Rattle.bpf_code.specs.Ops.{op_of}
use Rattle.bpf_code.specs.Accepted.{fault_of, Follows, stores, is_scratch_load, ReachesUnstored, at_start, goes, LoadsUnstored}
use Rattle.bpf_code.specs.Accepted.{IsFirstUnstored, NoUnstored}
use Rattle.bpf_code.specs.Unstored.{Has, unstored_behind, joined, passed_on}
use Rattle.bpf_code.proofs.FirstFaults.{lt_or_same, same_some}
use Rattle.bpf_code.proofs.Marks.{length-joined, joined_gives, joined_from, length-passed_on, passed_on_stays, passed_on_keeps}
use Rattle.bpf_code.proofs.Marks.{passed_on_gives, passed_on_from, follows_later, behind_from, behind_gives, load_word_small}

-- the marks have, at each place, words that some path to it leaves unstored, and all such words of paths from the places
-- before this one; no load before this one is unstored
pub record Marked (code : List Insn) (at : ℕ) (marks : List ℕ) : Type 0 where
  pub sized : length marks ≡ length code
  pub start : (word : ℕ) → word < 16 → 0 < length code → Has (slice_index marks 0) word
  pub sound : (place word : ℕ) → word < 16 → place < length code → Has (slice_index marks place) word → ReachesUnstored code word place
  pub closed : (place to word : ℕ) (insn : Insn) → place < at → word < 16 → to < length code → slice_get code place ≡ Some insn
      → Has (slice_index marks place) word → stores (op_of insn.code) insn word ≡ false → Follows (op_of insn.code) insn place to
      → Has (slice_index marks to) word
  pub none_before : (before : ℕ) → before < at → LoadsUnstored code before → ⊥

-- the marks have all words that paths leave unstored
pub marked_reaches : (code : List Insn) (at : ℕ) (marks : List ℕ) → Marked code at marks → (word place : ℕ) → word < 16
    → ReachesUnstored code word place → place ≤ at → place < length code → Has (slice_index marks place) word
marked_reaches code at marks m word place small at_start le lt = m.start word small lt
marked_reaches code at marks m word place small (goes from _ insn path found other follows) le lt =
    let later : from < place = follows_later (op_of insn.code) insn from place follows in
    m.closed from place word insn (omega arith) small lt found
    (marked_reaches code at marks m word from small path (omega arith) (omega arith)) other follows

pub not_true : false ≡ true → ⊥
not_true e = cc

not_one : (n : ℕ) → n ≡ 0 → n ≡ 1 → ⊥
not_one n e h = absurd (omega arith)

no_words : (word : ℕ) → Has 0 word → ⊥
no_words word h = absurd (not_one 0 refl (sym (bit_at-zero word) ∙ h))

start_sound : (code : List Insn) (place word : ℕ) → place < length code
    → Has (slice_index (joined (replicate (length code) 0) 0 65535) place) word → ReachesUnstored code word place
start_sound code place word lt h =
    elim (joined_from (replicate (length code) 0) 0 65535 place word
    (subst (λ n. place < n) (sym (length-replicate (length code) 0)) lt) h) [
      | inl none ↦ absurd (no_words word (subst (λ n. Has n word) (get_or-replicate (length code) place 0 0 lt) none))
      | inr all ↦ subst (ReachesUnstored code word) (sym all.0) at_start
    ]

-- at first all words are unstored at the first place
pub marked_start : (code : List Insn) → Marked code 0 (joined (replicate (length code) 0) 0 65535)
marked_start code = record {
  sized = length-joined (replicate (length code) 0) 0 65535 ∙ length-replicate (length code) 0;
  start = λ word small lt. joined_gives (replicate (length code) 0) 0 65535 word
      (subst (λ n. 0 < n) (sym (length-replicate (length code) 0)) lt) (bit_at_ones 16 word small);
  sound = λ place word small lt h. start_sound code place word lt h;
  closed = λ place to word insn below small lt found h other follows. absurd (omega arith);
  none_before = λ before below h. absurd (omega arith);
}

-- the marks after an instruction
module _ (code : List Insn) (at left : ℕ) (marks : List ℕ) (insn : Insn) (m : Marked code at marks) (lt : at < length code) (found : slice_get code at ≡ Some insn) (fine : fault_of insn left ≡ None) where
  abbrev here : ℕ
  here = slice_index marks at

  abbrev behind : ℕ
  behind = unstored_behind (op_of insn.code) insn here

  abbrev next : List ℕ
  next = passed_on (op_of insn.code) insn at behind marks

  in_marks : (place : ℕ) → place < length code → place < length marks
  in_marks place below = subst (λ n. place < n) (sym m.sized) below

  next_sound : (place word : ℕ) → word < 16 → place < length code → Has (slice_index next place) word → ReachesUnstored code word place
  next_sound place word small below h =
      elim (passed_on_from (op_of insn.code) insn at behind marks place word (in_marks place below) h) [
        | inl before ↦ m.sound place word small below before
        | inr new ↦
            let from = behind_from (op_of insn.code) insn left here word fine small new.1 in
            goes at place insn (m.sound at word small lt from.0) found from.1 new.0
      ]

  next_closed : (place to word : ℕ) (other : Insn) → place < at + 1 → word < 16 → to < length code → slice_get code place ≡ Some other
      → Has (slice_index next place) word → stores (op_of other.code) other word ≡ false → Follows (op_of other.code) other place to
      → Has (slice_index next to) word
  next_closed place to word other below small inside there h keeps follows =
      elim (lt_or_same place at below) [
        | inl before ↦
            let same : slice_index next place ≡ slice_index marks place = passed_on_stays (op_of insn.code) insn at behind marks place (omega arith) in
            passed_on_keeps (op_of insn.code) insn at behind marks to word (in_marks to inside)
            (m.closed place to word other before small inside there (subst (λ n. Has n word) same h) keeps follows)
        | inr now ↦
            let one : other ≡ insn = same_some other insn (sym there ∙ ap (slice_get code) now ∙ found) in
            let same : slice_index next place ≡ here = ap (slice_index next) now ∙ passed_on_stays (op_of insn.code) insn at behind marks at (omega arith) in
            let follows_here : Follows (op_of insn.code) insn at to = subst (λ p. Follows (op_of insn.code) insn p to) now (subst (λ x. Follows (op_of x.code) x place to) one follows) in
            let keeps_here : stores (op_of insn.code) insn word ≡ false = subst (λ x. stores (op_of x.code) x word ≡ false) one keeps in
            passed_on_gives (op_of insn.code) insn at behind marks to word (in_marks to inside) follows_here
            (behind_gives (op_of insn.code) insn left here word fine small (subst (λ n. Has n word) same h) keeps_here)
      ]

  loads_here : LoadsUnstored code at → (is_scratch_load (op_of insn.code) ≡ true) × Has here insn.k
  loads_here l =
      let one : l.insn ≡ insn = same_some l.insn insn (sym l.found ∙ found) in
      let loads : is_scratch_load (op_of insn.code) ≡ true = subst (λ x. is_scratch_load (op_of x.code) ≡ true) one l.loads in
      let path : ReachesUnstored code insn.k at = subst (λ x. ReachesUnstored code x.k at) one l.reached in
      (loads, marked_reaches code at marks m insn.k at (load_word_small (op_of insn.code) insn left fine loads) path (omega arith) lt)

  next_none : ((is_scratch_load (op_of insn.code) ≡ true) × Has here insn.k → ⊥) → (before : ℕ) → before < at + 1
      → LoadsUnstored code before → ⊥
  next_none stored before below l =
      elim (lt_or_same before at below) [
        | inl earlier ↦ m.none_before before earlier l
        | inr now ↦ stored (loads_here (subst (LoadsUnstored code) now l))
      ]

  pub marked_more : ((is_scratch_load (op_of insn.code) ≡ true) × Has here insn.k → ⊥) → Marked code (at + 1) next
  marked_more stored = record {
    sized = length-passed_on (op_of insn.code) insn at behind marks ∙ m.sized;
    start = λ word small some. passed_on_keeps (op_of insn.code) insn at behind marks 0 word (in_marks 0 some) (m.start word small some);
    sound = next_sound;
    closed = next_closed;
    none_before = next_none stored;
  }

  pub marked_first : (is_scratch_load (op_of insn.code) ≡ true) × Has here insn.k → IsFirstUnstored code at
  marked_first unstored = record {
    unstored = record { insn = insn; found = found; loads = unstored.0; reached = m.sound at insn.k (load_word_small (op_of insn.code) insn left fine unstored.0) lt unstored.1 };
    none_before = m.none_before;
  }

pub marked_none : (code : List Insn) (at : ℕ) (marks : List ℕ) → length code ≤ at → Marked code at marks → NoUnstored code
marked_none code at marks all m place insn found loads path =
    m.none_before place (omega (arith, slice_get_within code place insn found))
    (record { insn = insn; found = found; loads = loads; reached = path })
