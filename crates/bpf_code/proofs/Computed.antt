-- The function `program_of` gives exactly the accepted program.
use Rattle.std.proofs.Common.{◌≡◌, ℕ, zero, suc, ◌+◌, ◌%◌, ◌<◌, ◌≤◌, Bool, true, false, cond, List, [], ◌∷◌, length, Option, Some}
use Rattle.std.proofs.Common.{None, refl, sym, ap, ◌∙◌, subst, arith, inl, inr}
use Rattle.std.specs.Prelude.{◌==◌, ◌&&◌, not, nat_le, slice_get}
use Rattle.std.specs.Option.{option_map_or, is_none}
use Rattle.std.proofs.lemmas.Bool.{eqb-true, leb-true, le-leb, or_left, or_right, and_parts, or_cases, not-true, and_from, not_from_false}
use Rattle.std.proofs.lemmas.Option.{slice_get_within}
use Rattle.std.proofs.lemmas.Bool.{eq-eqb}
use Rattle.bpf_code.specs.declared.machine.Insn.{Insn}
use Rattle.bpf_code.specs.declared.program.Fault.{Fault}
use Rattle.bpf_code.specs.declared.ops.Op.{Op}
use Rattle.bpf_code.specs.declared.ops.Op.TheVariants.{Jump, JumpIf}
use Rattle.bpf_code.specs.Ops.{op_of}
use Rattle.bpf_code.specs.Accepted.{AreFine, fault_of, Follows, stores, is_scratch_load, ends_in_return, ReachesUnstored, at_start, goes}
use Rattle.bpf_code.specs.Accepted.{LoadsUnstored, NoUnstored, IsAccepted}
use Rattle.bpf_code.specs.Reading.{insns_of, Accepts}
use Rattle.bpf_code.specs.ProgramOf.{any_below, leads_to, passes_to, reaches, is_unstored_load, are_fine, is_accepted, program_of}
use Rattle.bpf_code.proofs.FirstFaults.{lt_or_same}
use Rattle.bpf_code.proofs.Marks.{follows_later}

of_none : (a : Bool) → (a ≡ true → ⊥) → not a ≡ true
of_none true h = absurd (h refl)
of_none false h = refl

no_both : (a : Bool) → a ≡ true → a ≡ false → ⊥
no_both true e f = cc
no_both false e f = cc

-- one number below
any_found : (n : ℕ) (test : ℕ → Bool) → any_below n test ≡ true → (k : ℕ) × (k < n) × (test k ≡ true)
any_found zero test e = cc
any_found (suc n) test e =
    elim (or_cases (test n) (any_below n test) e) [
      | inl here ↦ (n, omega arith, here)
      | inr below ↦ (let found = any_found n test below in let lt : found.0 < suc n = omega (arith, found.1) in (found.0, lt, found.2))
    ]

any_here : (n : ℕ) (test : ℕ → Bool) (k : ℕ) → k < n → test k ≡ true → any_below n test ≡ true
any_here zero test k lt e = absurd (omega arith)
any_here (suc n) test k lt e =
    elim (lt_or_same k n (omega arith)) [
      | inl below ↦ or_right (test n) (any_below n test) (any_here n test k below e)
      | inr same ↦ or_left (test n) (any_below n test) (subst (λ i. test i ≡ true) same e)
    ]

-- one step
follows_of : (op : Option Op) (insn : Insn) (at to : ℕ) → leads_to op insn at to ≡ true → Follows op insn at to
follows_of (Some Jump) insn at to e = eqb-true to (at + 1 + insn.k) e
follows_of (Some (JumpIf t o)) insn at to e =
    elim (or_cases (to == at + 1 + insn.jt) (to == at + 1 + insn.jf) e)
    [ inl h ↦ inl (eqb-true to (at + 1 + insn.jt) h) | inr h ↦ inr (eqb-true to (at + 1 + insn.jf) h) ]
follows_of op insn at to e = eqb-true to (at + 1) e

of_follows : (op : Option Op) (insn : Insn) (at to : ℕ) → Follows op insn at to → leads_to op insn at to ≡ true
of_follows (Some Jump) insn at to h = eq-eqb to (at + 1 + insn.k) h
of_follows (Some (JumpIf t o)) insn at to (inl h) = or_left (to == at + 1 + insn.jt) (to == at + 1 + insn.jf)
    (eq-eqb to (at + 1 + insn.jt) h)
of_follows (Some (JumpIf t o)) insn at to (inr h) = or_right (to == at + 1 + insn.jt) (to == at + 1 + insn.jf)
    (eq-eqb to (at + 1 + insn.jf) h)
of_follows op insn at to h = eq-eqb to (at + 1) h

-- a test of the instruction at a place
found_of : (o : Option Insn) (test : Insn → Bool) → option_map_or test o false ≡ true → (insn : Insn) × (o ≡ Some insn) × (test insn ≡ true)
found_of None test e = cc
found_of (Some insn) test e = (insn, refl, e)

of_found : (o : Option Insn) (test : Insn → Bool) (insn : Insn) → o ≡ Some insn → test insn ≡ true → option_map_or test o false ≡ true
of_found o test insn found e = ap (λ p. option_map_or test p false) found ∙ e

module _ (code : List Insn) (word : ℕ) where
  path_of : (steps to : ℕ) → reaches code word steps to ≡ true → ReachesUnstored code word to
  path_of zero to e = subst (ReachesUnstored code word) (sym (eqb-true to 0 e)) at_start
  path_of (suc steps) to e =
      elim (or_cases (to == 0) (any_below to (λ at. reaches code word steps at && passes_to code word at to)) e) [
        | inl start ↦ subst (ReachesUnstored code word) (sym (eqb-true to 0 start)) at_start
        | inr later ↦
            let found = any_found to (λ at. reaches code word steps at && passes_to code word at to) later in
            let at : ℕ = found.0 in
            let parts = and_parts (reaches code word steps at) (passes_to code word at to) found.2 in
            let step = found_of (slice_get code at) (λ insn. not (stores (op_of insn.code) insn word) && leads_to (op_of insn.code) insn at to) parts.1 in
            let insn : Insn = step.0 in
            let tests = and_parts (not (stores (op_of insn.code) insn word)) (leads_to (op_of insn.code) insn at to) step.2 in
            goes at to insn (path_of steps at parts.0) step.1 (not-true (stores (op_of insn.code) insn word) tests.0)
            (follows_of (op_of insn.code) insn at to tests.1)
      ]

  of_path : (to : ℕ) → ReachesUnstored code word to → (steps : ℕ) → to ≤ steps → reaches code word steps to ≡ true
  of_path _ at_start zero le = refl
  of_path _ at_start (suc steps) le = refl
  of_path _ (goes at to insn path found keeps follows) zero le =
      let later : at < to = follows_later (op_of insn.code) insn at to follows in absurd (omega arith)
  of_path _ (goes at to insn path found keeps follows) (suc steps) le =
      let later : at < to = follows_later (op_of insn.code) insn at to follows in
      let before : reaches code word steps at ≡ true = of_path at path steps (omega arith) in
      let step : passes_to code word at to ≡ true =
      of_found (slice_get code at) (λ insn. not (stores (op_of insn.code) insn word) && leads_to (op_of insn.code) insn at to) insn found
      (and_from (not (stores (op_of insn.code) insn word)) (leads_to (op_of insn.code) insn at to) (not_from_false (stores (op_of insn.code) insn word) keeps) (of_follows (op_of insn.code) insn at to follows)) in
      or_right (to == 0) (any_below to (λ at. reaches code word steps at && passes_to code word at to))
      (any_here to (λ at. reaches code word steps at && passes_to code word at to) at later
      (and_from (reaches code word steps at) (passes_to code word at to) before step))

unstored_of : (code : List Insn) (at : ℕ) → is_unstored_load code at ≡ true → LoadsUnstored code at
unstored_of code at e =
    let found = found_of (slice_get code at) (λ insn. is_scratch_load (op_of insn.code) && reaches code insn.k at at) e in
    let insn : Insn = found.0 in
    let parts = and_parts (is_scratch_load (op_of insn.code)) (reaches code insn.k at at) found.2 in
    record { insn = insn; found = found.1; loads = parts.0; reached = path_of code insn.k at at parts.1 }

of_unstored : (code : List Insn) (at : ℕ) (insn : Insn) → slice_get code at ≡ Some insn → is_scratch_load (op_of insn.code) ≡ true
    → ReachesUnstored code insn.k at → is_unstored_load code at ≡ true
of_unstored code at insn found loads path =
    of_found (slice_get code at) (λ insn. is_scratch_load (op_of insn.code) && reaches code insn.k at at) insn found
    (and_from (is_scratch_load (op_of insn.code)) (reaches code insn.k at at) loads (of_path code insn.k at path at (omega arith)))

none_of : (o : Option Fault) → is_none o ≡ true → o ≡ None
none_of None e = refl
none_of (Some fault) e = cc

fine_of : (code : List Insn) → are_fine code ≡ true → AreFine code
fine_of [] e = tt
fine_of (insn ∷ code) e = let parts = and_parts (is_none (fault_of insn (length code))) (are_fine code) e in (none_of _ parts.0, fine_of code parts.1)

of_fine : (code : List Insn) → AreFine code → are_fine code ≡ true
of_fine [] h = refl
of_fine (insn ∷ code) h = and_from (is_none (fault_of insn (length code))) (are_fine code) (ap is_none h.0) (of_fine code h.1)

pub accepted_of : (code : List Insn) → is_accepted code ≡ true → IsAccepted code
accepted_of code e =
    let parts = and_parts (nat_le (length code) 4096 && are_fine code) (ends_in_return code && not (any_below (length code) (is_unstored_load code))) e in
    let front = and_parts (nat_le (length code) 4096) (are_fine code) parts.0 in
    let back = and_parts (ends_in_return code) (not (any_below (length code) (is_unstored_load code))) parts.1 in
    record {
      short = leb-true (length code) 4096 front.0;
      fine = fine_of code front.1;
      ends = back.0;
      stored = λ at insn found loads path. no_both (any_below (length code) (is_unstored_load code))
          (any_here (length code) (is_unstored_load code) at (slice_get_within code at insn found)
          (of_unstored code at insn found loads path))
          (not-true (any_below (length code) (is_unstored_load code)) back.1);
    }

none_unstored : (code : List Insn) → NoUnstored code → any_below (length code) (is_unstored_load code) ≡ true → ⊥
none_unstored code stored e =
    let found = any_found (length code) (is_unstored_load code) e in
    let l = unstored_of code found.0 found.2 in
    stored found.0 l.insn l.found l.loads l.reached

of_accepted : (code : List Insn) → IsAccepted code → is_accepted code ≡ true
of_accepted code a =
    and_from (nat_le (length code) 4096 && are_fine code) (ends_in_return code && not (any_below (length code) (is_unstored_load code)))
    (and_from (nat_le (length code) 4096) (are_fine code) (le-leb (length code) 4096 a.short) (of_fine code a.fine))
    (and_from (ends_in_return code) (not (any_below (length code) (is_unstored_load code))) a.ends
    (of_none (any_below (length code) (is_unstored_load code)) (none_unstored code a.stored)))

-- bytes that are a program give that program
pub program_of-accepts : (bytes : List ℕ) (program : List Insn) → Accepts bytes program → program_of bytes ≡ Some program
program_of-accepts bytes program a =
    let test : (length bytes % 8 == 0 && is_accepted (insns_of bytes)) ≡ true =
    and_from (length bytes % 8 == 0) (is_accepted (insns_of bytes)) (eq-eqb (length bytes % 8) 0 a.whole) (of_accepted (insns_of bytes) (subst IsAccepted a.insns a.accepted)) in
    ap (λ b. cond b (Some (insns_of bytes)) None) test ∙ ap Some (sym a.insns)

by_test : (bytes : List ℕ) (b : Bool) → (length bytes % 8 == 0 && is_accepted (insns_of bytes)) ≡ b
    → ((program : List Insn) → Accepts bytes program → ⊥) → cond b (Some (insns_of bytes)) None ≡ None
by_test bytes false e h = refl
by_test bytes true e h =
    let parts = and_parts (length bytes % 8 == 0) (is_accepted (insns_of bytes)) e in
    absurd (h (insns_of bytes)
    (record { whole = eqb-true (length bytes % 8) 0 parts.0; insns = refl; accepted = accepted_of (insns_of bytes) parts.1 }))

-- other bytes give no program
pub program_of-none : (bytes : List ℕ) → ((program : List Insn) → Accepts bytes program → ⊥) → program_of bytes ≡ None
program_of-none bytes h = by_test bytes (length bytes % 8 == 0 && is_accepted (insns_of bytes)) refl h
