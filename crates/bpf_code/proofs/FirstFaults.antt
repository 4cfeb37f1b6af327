-- A program may have a first fault, and it has an end.
use Rattle.std.proofs.Common.{◌≡◌, ℕ, zero, suc, ◌+◌, ◌-◌, ◌<◌, Bool, false, List, [], ◌∷◌, length, get_or, Some, None, refl, sym, ap, ◌∙◌}
use Rattle.std.proofs.Common.{subst, arith, inl, inr}
use Rattle.std.specs.Prelude.{slice_get, ◌⊎◌}
use Rattle.std.proofs.lemmas.Bool.{cases_lt}
use Rattle.std.proofs.lemmas.Option.{slice_get-get_or, slice_get_within}
use Rattle.bpf_code.specs.declared.machine.Insn.{Insn}
use Rattle.bpf_code.specs.declared.program.Fault.{Fault}
use Rattle.bpf_code.specs.Ops.{op_of}
use Rattle.bpf_code.specs.Accepted.{AreFine, fault_of, IsFirstFault, is_return, ends_in_return}

-- the instructions before a place have no fault
abbrev pub FineBefore : List Insn → ℕ → Type 0
FineBefore code at = (before : ℕ) (other : Insn) → before < at → slice_get code before ≡ Some other
    → fault_of other (length code - (before + 1)) ≡ None

pub fine_before_none : (code : List Insn) → FineBefore code 0
fine_before_none code before other lt found = absurd (omega arith)

pub same_some : (a b : Insn) → Some a ≡ Some b → a ≡ b
same_some a b e = cc

pub lt_or_same : (a b : ℕ) → a < b + 1 → (a < b) ⊎ (a ≡ b)
lt_or_same a b lt = elim (cases_lt a b) [ inl below ↦ inl below | inr above ↦ inr (let same : a ≡ b = omega arith in same) ]

pub fine_before_more : (code : List Insn) (at next : ℕ) (insn : Insn) → next ≡ at + 1 → slice_get code at ≡ Some insn
    → fault_of insn (length code - (at + 1)) ≡ None → FineBefore code at → FineBefore code next
fine_before_more code at next insn e found fine h before other lt there =
    elim (lt_or_same before at (omega arith)) [
      | inl below ↦ h before other below there
      | inr same ↦
          let one : insn ≡ other = same_some insn other (sym found ∙ ap (slice_get code) (sym same) ∙ there) in
          subst (λ i. fault_of other (length code - (i + 1)) ≡ None) (sym same)
          (subst (λ x. fault_of x (length code - (at + 1)) ≡ None) one fine)
    ]

-- the same holds at the element that a loop reads
pub read_fine : (code : List Insn) (at left : ℕ) (d : Insn) → at < length code → left ≡ length code - at - 1
    → None ≡ fault_of (get_or code at d) left → FineBefore code at → FineBefore code (at + 1)
read_fine code at left d lt e fine h =
    let same : left ≡ length code - (at + 1) = omega arith in
    fine_before_more code at (at + 1) (get_or code at d) refl (slice_get-get_or code at d lt)
    (subst (λ n. fault_of (get_or code at d) n ≡ None) same (sym fine)) h

pub read_faulty : (code : List Insn) (at left : ℕ) (d : Insn) (fault : Fault) → at < length code → left ≡ length code - at - 1
    → Some fault ≡ fault_of (get_or code at d) left → FineBefore code at → IsFirstFault code at fault
read_faulty code at left d fault lt e faulty h =
    let same : left ≡ length code - (at + 1) = omega arith in
    record { insn = get_or code at d; found = slice_get-get_or code at d lt; faulty = subst (λ n. fault_of (get_or code at d) n ≡ Some fault) same (sym faulty); fine_before = h }

pub fine_before_all : (code : List Insn) → FineBefore code (length code) → AreFine code
fine_before_all [] h = tt
fine_before_all (insn ∷ code) h =
    let left : suc (length code) - (0 + 1) ≡ length code = omega arith in (
      subst (λ n. fault_of insn n ≡ None) left (h 0 insn (omega arith) refl),
      fine_before_all code (λ before other lt found.
          let same : suc (length code) - (suc before + 1) ≡ length code - (before + 1) = omega arith in
          subst (λ n. fault_of other n ≡ None) same (h (suc before) other (omega arith) found)),
    )

-- if all instructions are fine, the instruction at a place has no fault
pub fine_at : (code : List Insn) (at : ℕ) (insn : Insn) → AreFine code → slice_get code at ≡ Some insn
    → fault_of insn (length code - (at + 1)) ≡ None
fine_at [] at insn fine found = cc
fine_at (x ∷ code) zero insn fine found =
    let left : length code ≡ suc (length code) - (0 + 1) = omega arith in
    subst (λ n. fault_of insn n ≡ None) left (subst (λ y. fault_of y (length code) ≡ None) (same_some x insn found) fine.0)
fine_at (x ∷ code) (suc at) insn fine found =
    let same : length code - (at + 1) ≡ suc (length code) - (suc at + 1) = omega arith in
    subst (λ n. fault_of insn n ≡ None) same (fine_at code at insn fine.1 found)

-- the last instruction decides whether the program ends
pub ends_by_last : (code : List Insn) (last : Insn) → 0 < length code → slice_get code (length code - 1) ≡ Some last
    → ends_in_return code ≡ is_return (op_of last.code)
ends_by_last [] last lt found = absurd (omega arith)
ends_by_last (insn ∷ []) last lt found = ap (λ x. is_return (op_of x.code)) (same_some insn last found)
ends_by_last (insn ∷ next ∷ code) last lt found =
    let here : suc (suc (length code)) - 1 ≡ suc (length code) = omega arith in
    let there : suc (length code) - 1 ≡ length code = omega arith in
    ends_by_last (next ∷ code) last (omega arith)
    (subst (λ n. slice_get (next ∷ code) n ≡ Some last) (sym there)
    (subst (λ n. slice_get (insn ∷ next ∷ code) n ≡ Some last) here found))

pub ends_by_none : (code : List Insn) → None ≡ slice_get code (length code - 1) → false ≡ ends_in_return code
ends_by_none [] e = refl
ends_by_none (insn ∷ code) e = let there = slice_get-get_or (insn ∷ code) (length (insn ∷ code) - 1) insn (omega arith) in cc

pub ends_by_some : (code : List Insn) (last : Insn) (b : Bool) → Some last ≡ slice_get code (length code - 1)
    → b ≡ is_return (op_of last.code) → b ≡ ends_in_return code
ends_by_some code last b e is = is
    ∙ sym (ends_by_last code last (omega (arith, slice_get_within code (length code - 1) last (sym e))) (sym e))

pub read_fine_at : (code : List Insn) (at : ℕ) (d : Insn) → AreFine code → at < length code
    → fault_of (get_or code at d) (length code - (at + 1)) ≡ None
read_fine_at code at d fine lt = fine_at code at (get_or code at d) fine (slice_get-get_or code at d lt)
