-- The function by which proofs compute agrees with the end of a program.
use Rattle.std.proofs.Common.{◌≡◌, ℕ, zero, suc, ◌+◌, ◌≤◌, List, [], ◌∷◌, length, drop, Option, Some, None, refl, sym, ap, ◌∙◌, subst}
use Rattle.std.proofs.Common.{arith}
use Rattle.std.specs.Prelude.{slice_get}
use Rattle.bpf_code.specs.declared.machine.Insn.{Insn}
use Rattle.bpf_code.specs.declared.machine.CallData.{CallData}
use Rattle.bpf_code.specs.declared.machine.Regs.{Regs}
use Rattle.bpf_code.specs.declared.machine.Effect.{Effect}
use Rattle.bpf_code.specs.declared.machine.Effect.TheVariants.{End, Skip}
use Rattle.bpf_code.specs.Ops.{op_of}
use Rattle.bpf_code.specs.Effects.{effect_by}
use Rattle.bpf_code.specs.Meaning.{Ends, stops, continues, counted, goes_on, run_from, start_regs, Answers, AnswersWithin, IsOnlyAnswer}

-- skipping instructions is the same as dropping them
pub run_from-skip : (code : List Insn) (input : CallData) (skip : ℕ) (regs : Regs)
    → run_from code input skip regs ≡ run_from (drop skip code) input 0 regs
run_from-skip [] input zero regs = refl
run_from-skip [] input (suc skip) regs = refl
run_from-skip (insn ∷ code) input zero regs = refl
run_from-skip (insn ∷ code) input (suc skip) regs = run_from-skip code input skip regs

-- the instruction at a place is the first of the instructions from there on
pub found_in_drop : (code rest : List Insn) (insn : Insn) (at : ℕ) → drop at code ≡ insn ∷ rest → slice_get code at ≡ Some insn
found_in_drop [] rest insn zero e = cc
found_in_drop [] rest insn (suc at) e = cc
found_in_drop (x ∷ code) rest insn zero e = cc
found_in_drop (x ∷ code) rest insn (suc at) e = found_in_drop code rest insn at e

pub rest_of_drop : (code rest : List Insn) (insn : Insn) (at : ℕ) → drop at code ≡ insn ∷ rest → drop (at + 1) code ≡ rest
rest_of_drop [] rest insn zero e = cc
rest_of_drop [] rest insn (suc at) e = cc
rest_of_drop (x ∷ code) rest insn zero e = cc
rest_of_drop (x ∷ code) rest insn (suc at) e = let next : suc at + 1 ≡ suc (at + 1) = omega arith in rw next (rest_of_drop code rest insn at e)

pub drop_at_found : (code : List Insn) (insn : Insn) (at : ℕ) → slice_get code at ≡ Some insn → drop at code ≡ insn ∷ drop (at + 1) code
drop_at_found [] insn at e = cc
drop_at_found (x ∷ code) insn zero e = cc
drop_at_found (x ∷ code) insn (suc at) e = let next : suc at + 1 ≡ suc (at + 1) = omega arith in rw next (drop_at_found code insn at e)

pub drop_further : (code : List Insn) (at more : ℕ) → drop more (drop at code) ≡ drop (at + more) code
drop_further code zero more = let e : 0 + more ≡ more = omega arith in rw e refl
drop_further [] (suc at) zero = let e : suc at + 0 ≡ suc at = omega arith in rw e refl
drop_further [] (suc at) (suc more) = let e : suc at + suc more ≡ suc (at + suc more) = omega arith in rw e refl
drop_further (x ∷ code) (suc at) more = let e : suc at + more ≡ suc (at + more) = omega arith in rw e (drop_further code at more)

result_in : Option (ℕ × ℕ) → ℕ
result_in None = 0
result_in (Some end) = end.0

count_in : Option (ℕ × ℕ) → ℕ
count_in None = 0
count_in (Some end) = end.1

same_result : (a b c d : ℕ) → ◌≡◌ {A = Option (ℕ × ℕ)} (Some (a, b)) (Some (c, d)) → a ≡ c
unfolding result_in
same_result a b c d e = ap result_in e

same_count : (a b c d : ℕ) → ◌≡◌ {A = Option (ℕ × ℕ)} (Some (a, b)) (Some (c, d)) → b ≡ d
unfolding count_in
same_count a b c d e = ap count_in e

counted_before : (o : Option (ℕ × ℕ)) (result count : ℕ) → counted o ≡ Some (result, count)
    → (before : ℕ) × (o ≡ Some (result, before)) × (count ≡ before + 1)
counted_before None result count e = cc
counted_before (Some end) result count e = (end.1, ap (λ r. Some (r, end.1)) (same_result _ _ _ _ e), sym (same_count _ _ _ _ e))

by_effect : (code rest : List Insn) (input : CallData) (at : ℕ) (regs : Regs) (insn : Insn) (result count : ℕ)
    (o : Option (Effect × Regs)) → slice_get code at ≡ Some insn → effect_by (op_of insn.code) insn regs input ≡ o
    → goes_on o (run_from rest input) ≡ Some (result, count)
    → ((skip : ℕ) (after : Regs) (steps : ℕ) → run_from rest input skip after ≡ Some (result, steps)
    → Ends code input (at + 1 + skip) after result steps) → Ends code input at regs result count
by_effect code rest input at regs insn result count None found effect e further = cc
by_effect code rest input at regs insn result count (Some (End answer, after)) found effect e further =
    subst (λ r. Ends code input at regs r count) (same_result answer 1 result count e)
    (subst (Ends code input at regs answer) (same_count answer 1 result count e) (stops at regs after insn answer found effect))
by_effect code rest input at regs insn result count (Some (Skip skip, after)) found effect e further =
    let b = counted_before (run_from rest input skip after) result count e in
    subst (Ends code input at regs result) (sym b.2)
    (continues at skip regs after insn result b.0 found effect (further skip after b.0 b.1))

ends_from : (code rest : List Insn) (input : CallData) (at skip : ℕ) (regs : Regs) (result count : ℕ) → drop at code ≡ rest
    → run_from rest input skip regs ≡ Some (result, count) → Ends code input (at + skip) regs result count
ends_from code [] input at skip regs result count left e = cc
ends_from code (insn ∷ rest) input at zero regs result count left e =
    let same : at ≡ at + 0 = omega arith in
    subst (λ i. Ends code input i regs result count) same
    (by_effect code rest input at regs insn result count _ (found_in_drop code rest insn at left) refl e
    (λ skip after steps h. ends_from code rest input (at + 1) skip after result steps (rest_of_drop code rest insn at left) h))
ends_from code (insn ∷ rest) input at (suc skip) regs result count left e =
    let same : at + 1 + skip ≡ at + suc skip = omega arith in
    subst (λ i. Ends code input i regs result count) same
    (ends_from code rest input (at + 1) skip regs result count (rest_of_drop code rest insn at left) e)

-- the program ends with the computed result
pub ends_by_run : (code : List Insn) (input : CallData) (at : ℕ) (regs : Regs) (result count : ℕ)
    → run_from (drop at code) input 0 regs ≡ Some (result, count) → Ends code input at regs result count
ends_by_run code input at regs result count e =
    let same : at + 0 ≡ at = omega arith in
    subst (λ i. Ends code input i regs result count) same (ends_from code (drop at code) input at 0 regs result count refl e)

-- the function computes the result with which the program ends
pub run_by_ends : (code : List Insn) (input : CallData) (at : ℕ) (regs : Regs) (result count : ℕ) → Ends code input at regs result count
    → run_from (drop at code) input 0 regs ≡ Some (result, count)
run_by_ends code input at regs result _ (stops _ _ after insn _ found effect) =
    ap (λ l. run_from l input 0 regs) (drop_at_found code insn at found) ∙ ap (λ o. goes_on o (run_from (drop (at + 1) code) input)) effect
run_by_ends code input at regs result _ (continues _ skip _ after insn _ count found effect more) =
    ap (λ l. run_from l input 0 regs) (drop_at_found code insn at found)
    ∙ ap (λ o. goes_on o (run_from (drop (at + 1) code) input)) effect
    ∙ ap counted (run_from-skip (drop (at + 1) code) input skip after
    ∙ ap (λ l. run_from l input 0 after) (drop_further code (at + 1) skip)
    ∙ run_by_ends code input (at + 1 + skip) after result count more)

-- the same holds of a whole program
pub answers_by_run : (code : List Insn) (input : CallData) (answer count : ℕ) → run_from code input 0 start_regs ≡ Some (answer, count)
    → Answers code input answer
answers_by_run code input answer count e = (count, ends_by_run code input 0 start_regs answer count e)

pub run_by_answers : (code : List Insn) (input : CallData) (answer : ℕ) → Answers code input answer
    → (count : ℕ) × (run_from code input 0 start_regs ≡ Some (answer, count))
run_by_answers code input answer h = (h.0, run_by_ends code input 0 start_regs answer h.0 h.1)

pub only_answer_by_run : (code : List Insn) (input : CallData) (answer count : ℕ)
    → run_from code input 0 start_regs ≡ Some (answer, count) → IsOnlyAnswer code input answer
only_answer_by_run code input answer count e other h = let k = run_by_answers code input other h in same_result _ _ _ _ (sym k.1 ∙ e)

within_effect : (rest : List Insn) (input : CallData) (result count : ℕ) (o : Option (Effect × Regs))
    → goes_on o (run_from rest input) ≡ Some (result, count)
    → ((skip : ℕ) (after : Regs) (steps : ℕ) → run_from rest input skip after ≡ Some (result, steps) → steps ≤ length rest)
    → count ≤ length rest + 1
within_effect rest input result count None e further = cc
within_effect rest input result count (Some (End answer, after)) e further = let one = same_count answer 1 result count e in omega arith
within_effect rest input result count (Some (Skip skip, after)) e further =
    let b = counted_before (run_from rest input skip after) result count e in
    let le = further skip after b.0 b.1 in
    omega arith

-- no instruction is performed twice
pub count_within : (code : List Insn) (input : CallData) (skip : ℕ) (regs : Regs) (result count : ℕ)
    → run_from code input skip regs ≡ Some (result, count) → count ≤ length code
count_within [] input skip regs result count e = cc
count_within (insn ∷ code) input zero regs result count e =
    let le = within_effect code input result count _ e (λ skip after steps h. count_within code input skip after result steps h) in
    omega arith
count_within (insn ∷ code) input (suc skip) regs result count e = let le = count_within code input skip regs result count e in omega arith

pub answers_within_by_run : (code : List Insn) (input : CallData) (answer count limit : ℕ) → count ≤ limit
    → run_from code input 0 start_regs ≡ Some (answer, count) → AnswersWithin limit code input answer
answers_within_by_run code input answer count limit le e = (count, ends_by_run code input 0 start_regs answer count e, le)
