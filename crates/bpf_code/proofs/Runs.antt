-- A run of an accepted program stays inside it.
use Rattle.std.proofs.Common.{◌≡◌, ℕ, zero, suc, ◌+◌, ◌<◌, Bool, true, false, cond, List, [], ◌∷◌, length, drop, Option, Some, None, refl}
use Rattle.std.proofs.Common.{sym, ap, ◌∙◌, subst, arith}
use Rattle.std.specs.Prelude.{nat_lt, ◌==◌}
use borrow.Author.Tests.{ltb-true}
use Rattle.std.proofs.lemmas.Bool.{and_parts}
use Rattle.bpf_code.specs.declared.machine.Insn.{Insn}
use Rattle.bpf_code.specs.declared.machine.CallData.{CallData}
use Rattle.bpf_code.specs.declared.machine.Regs.{Regs}
use Rattle.bpf_code.specs.declared.machine.Effect.{Effect}
use Rattle.bpf_code.specs.declared.machine.Effect.TheVariants.{End, Skip}
use Rattle.bpf_code.specs.declared.program.Fault.{Fault}
use Rattle.bpf_code.specs.declared.ops.Op.{Op}
use Rattle.bpf_code.specs.declared.ops.Op.TheVariants.{LoadWord, LoadLen, LoadNumber, LoadScratch, Store, Alu, Neg, MoveToX, MoveToA, Jump}
use Rattle.bpf_code.specs.declared.ops.Op.TheVariants.{JumpIf, Return}
use Rattle.bpf_code.specs.declared.ops.AluOp.TheVariants as alu
use Rattle.bpf_code.specs.declared.ops.Source.TheVariants as source
use Rattle.bpf_code.specs.Ops.{op_of}
use Rattle.bpf_code.specs.Effects.{effect_of, alu_effect, value_of, effect_by, StaysWithin, result_of_op}
use Rattle.bpf_code.specs.Meaning.{goes_on, counted, run_from, start_regs, Answers}
use Rattle.bpf_code.proofs.Endings.{run_from-skip, answers_by_run}
use Rattle.bpf_code.specs.Accepted.{unless, op_fault, fault_by, fault_of, AreFine, is_return, ends_in_return, IsAccepted}

pub unless_none : (b : Bool) (f : Fault) → unless b f ≡ None → b ≡ true
unless_none true f e = refl
unless_none false f e = cc

-- an effect skips fewer than so many instructions
abbrev pub SkipsBelow : ℕ → Effect × Regs → Type 0
SkipsBelow left e = StaysWithin left e.0

alu_skips : (op : _) (n left : ℕ) (regs : Regs) → 0 < left → SkipsBelow left (alu_effect op n regs)
alu_skips alu.Add n left regs h = h
alu_skips alu.Sub n left regs h = h
alu_skips alu.Mul n left regs h = h
alu_skips alu.Div n left regs h =
    elim (n == 0) as (λ b. SkipsBelow left (cond b (End 0, regs) (Skip 0, record regs { a = result_of_op alu.Div regs.a n })))
    [ true ↦ tt | false ↦ h ]
alu_skips alu.Or n left regs h = h
alu_skips alu.And n left regs h = h
alu_skips alu.Lsh n left regs h = h
alu_skips alu.Rsh n left regs h = h
alu_skips alu.Xor n left regs h = h

test_skips : (b : Bool) (jt jf left : ℕ) → jt < left → jf < left → cond b jt jf < left
test_skips true jt jf left s t = s
test_skips false jt jf left s t = t

pub skips_below : (op : Op) (insn : Insn) (left : ℕ) (regs : Regs) (input : CallData) → op_fault op insn left ≡ None
    → is_return (Some op) ≡ false → 0 < left → SkipsBelow left (effect_of op insn regs input)
skips_below LoadWord insn left regs input e r h = h
skips_below (LoadLen s) insn left regs input e r h = h
skips_below (LoadNumber s) insn left regs input e r h = h
skips_below (LoadScratch s) insn left regs input e r h = h
skips_below (Store s) insn left regs input e r h = h
skips_below (Alu op o) insn left regs input e r h = alu_skips op (value_of o insn regs) left regs h
skips_below Neg insn left regs input e r h = h
skips_below MoveToX insn left regs input e r h = h
skips_below MoveToA insn left regs input e r h = h
skips_below Jump insn left regs input e r h = ltb-true _ _ (unless_none (nat_lt insn.k left) _ e)
skips_below (JumpIf t o) insn left regs input e r h = let t = and_parts (nat_lt insn.jt left) (nat_lt insn.jf left) (unless_none _ _ e) in test_skips _ _ _ left (ltb-true _ _ t.0) (ltb-true _ _ t.1)
skips_below (Return source.Number) insn left regs input e r h = cc
skips_below (Return source.A) insn left regs input e r h = cc

pub AreFine-drop : (n : ℕ) (code : List Insn) → AreFine code → AreFine (drop n code)
AreFine-drop zero code h = h
AreFine-drop (suc n) [] h = h
AreFine-drop (suc n) (insn ∷ code) h = AreFine-drop n code h.1

pub ends-drop : (n : ℕ) (code : List Insn) → n < length code → ends_in_return code ≡ true → ends_in_return (drop n code) ≡ true
ends-drop zero code lt h = h
ends-drop (suc n) [] lt h = absurd (omega arith)
ends-drop (suc n) (insn ∷ []) lt h = absurd (omega arith)
ends-drop (suc n) (insn ∷ next ∷ code) lt h = ends-drop n (next ∷ code) (omega arith) h

-- instructions follow an instruction that does not end its program
pub some_left : (insn : Insn) (rest : List Insn) → ends_in_return (insn ∷ rest) ≡ true → is_return (op_of insn.code) ≡ false
    → 0 < length rest
some_left insn [] h r = cc
some_left insn (next ∷ rest) h r = omega arith

-- an instruction without a fault skips fewer instructions than follow it
pub stays_within : (op : Op) (insn : Insn) (left : ℕ) (regs : Regs) (input : CallData) → op_fault op insn left ≡ None
    → (is_return (Some op) ≡ false → 0 < left) → StaysWithin left (effect_of op insn regs input).0
stays_within (Return source.Number) insn left regs input e more = tt
stays_within (Return source.A) insn left regs input e more = tt
stays_within LoadWord insn left regs input e more = skips_below LoadWord insn left regs input e refl (more refl)
stays_within (LoadLen s) insn left regs input e more = skips_below (LoadLen s) insn left regs input e refl (more refl)
stays_within (LoadNumber s) insn left regs input e more = skips_below (LoadNumber s) insn left regs input e refl (more refl)
stays_within (LoadScratch s) insn left regs input e more = skips_below (LoadScratch s) insn left regs input e refl (more refl)
stays_within (Store s) insn left regs input e more = skips_below (Store s) insn left regs input e refl (more refl)
stays_within (Alu op o) insn left regs input e more = skips_below (Alu op o) insn left regs input e refl (more refl)
stays_within Neg insn left regs input e more = skips_below Neg insn left regs input e refl (more refl)
stays_within MoveToX insn left regs input e more = skips_below MoveToX insn left regs input e refl (more refl)
stays_within MoveToA insn left regs input e more = skips_below MoveToA insn left regs input e refl (more refl)
stays_within Jump insn left regs input e more = skips_below Jump insn left regs input e refl (more refl)
stays_within (JumpIf t o) insn left regs input e more = skips_below (JumpIf t o) insn left regs input e refl (more refl)

-- an instruction without a fault has an effect
has_effect : (o : Option Op) (insn : Insn) (left : ℕ) (regs : Regs) (input : CallData) → fault_by o insn left ≡ None
    → effect_by o insn regs input ≡ None → ⊥
has_effect None insn left regs input fine e = cc
has_effect (Some op) insn left regs input fine e = cc

-- an instruction that continues leads inside the program
stays_below : (left : ℕ) (skip : ℕ) (after : Regs) (e : Effect × Regs) → e ≡ (Skip skip, after) → StaysWithin left e.0 → skip < left
stays_below left skip after e same h = subst (λ x. StaysWithin left x.0) same h

some_effect : (e f : Effect × Regs) → Some e ≡ Some f → e ≡ f
some_effect e f h = cc

skips_inside : (o : Option Op) (insn : Insn) (left : ℕ) (regs : Regs) (input : CallData) (skip : ℕ) (after : Regs)
    → fault_by o insn left ≡ None → (is_return o ≡ false → 0 < left) → effect_by o insn regs input ≡ Some (Skip skip, after) → skip < left
skips_inside None insn left regs input skip after fine more e = cc
skips_inside (Some op) insn left regs input skip after fine more e =
    stays_below left skip after (effect_of op insn regs input) (some_effect _ _ e) (stays_within op insn left regs input fine more)

ends_rest : (insn : Insn) (rest : List Insn) → 0 < length rest → ends_in_return (insn ∷ rest) ≡ true → ends_in_return rest ≡ true
ends_rest insn [] lt h = absurd (omega arith)
ends_rest insn (next ∷ rest) lt h = h

-- one step of an accepted program continues
pub record GoesOn (insn : Insn) (rest : List Insn) (regs regs' : Regs) (input : CallData) (skip : ℕ) : Type 0 where
  pub fine : AreFine (drop skip rest)
  pub ends : ends_in_return (drop skip rest) ≡ true
  pub answers : (answer count : ℕ) → run_from (drop skip rest) input 0 regs' ≡ Some (answer, count)
      → run_from (insn ∷ rest) input 0 regs ≡ Some (answer, count + 1)

pub goes_on_from : (insn : Insn) (rest : List Insn) (regs regs' : Regs) (input : CallData) (skip : ℕ)
    → effect_by (op_of insn.code) insn regs input ≡ Some (Skip skip, regs') → skip < length rest → AreFine (insn ∷ rest)
    → ends_in_return (insn ∷ rest) ≡ true → GoesOn insn rest regs regs' input skip
goes_on_from insn rest regs regs' input skip e below fine ends =
    record {
      fine = AreFine-drop skip rest fine.1;
      ends = ends-drop skip rest below (ends_rest insn rest (omega arith) ends);
      answers = λ answer count h.
          ap (λ f. goes_on f (run_from rest input)) e
          ∙ ap counted (run_from-skip rest input skip regs' ∙ h);
    }

-- one step of an accepted program answers
pub answers_now : (code : List Insn) (insn : Insn) (rest : List Insn) (regs regs' : Regs) (input : CallData) (answer : ℕ)
    → code ≡ insn ∷ rest → effect_by (op_of insn.code) insn regs input ≡ Some (End answer, regs')
    → run_from code input 0 regs ≡ Some (answer, 1)
answers_now code insn rest regs regs' input answer is e = ap (λ l. run_from l input 0 regs) is ∙ ap (λ f. goes_on f (run_from rest input)) e

-- the remaining part of a program has these properties
pub record Remains (whole code : List Insn) (regs : Regs) (input : CallData) : Type 0 where
  pub fine : AreFine code
  pub ends : ends_in_return code ≡ true
  pub answers : (answer count : ℕ) → run_from code input 0 regs ≡ Some (answer, count)
      → (total : ℕ) × (run_from whole input 0 start_regs ≡ Some (answer, total))

pub remains_whole : (code : List Insn) (input : CallData) → IsAccepted code → Remains code code start_regs input
remains_whole code input a = record { fine = a.fine; ends = a.ends; answers = λ answer count h. (count, h) }

pub remains_more : (whole code : List Insn) (insn : Insn) (rest part : List Insn) (regs regs' : Regs) (input : CallData) (skip : ℕ)
    → Remains whole code regs input → code ≡ insn ∷ rest → effect_by (op_of insn.code) insn regs input ≡ Some (Skip skip, regs')
    → skip < length rest → part ≡ drop skip rest → Remains whole part regs' input
remains_more whole code insn rest part regs regs' input skip r is e below p =
    let fine : AreFine (insn ∷ rest) = subst AreFine is r.fine in
    let ends : ends_in_return (insn ∷ rest) ≡ true = subst (λ l. ends_in_return l ≡ true) is r.ends in
    let g = goes_on_from insn rest regs regs' input skip e below fine ends in
    record {
      fine = subst AreFine (sym p) g.fine;
      ends = subst (λ l. ends_in_return l ≡ true) (sym p) g.ends;
      answers = λ answer count h. r.answers answer (count + 1)
          (ap (λ l. run_from l input 0 regs) is ∙ g.answers answer count (ap (λ l. run_from l input 0 regs') (sym p) ∙ h));
    }

-- the part ends here, and so does the program
pub remains_ends : (whole code : List Insn) (insn : Insn) (rest : List Insn) (regs regs' : Regs) (input : CallData) (answer : ℕ)
    → Remains whole code regs input → code ≡ insn ∷ rest → effect_by (op_of insn.code) insn regs input ≡ Some (End answer, regs')
    → (total : ℕ) × (run_from whole input 0 start_regs ≡ Some (answer, total))
remains_ends whole code insn rest regs regs' input answer r is e =
    r.answers answer 1 (answers_now code insn rest regs regs' input answer is e)

-- every accepted program has an answer to all data
run_from-effect : (insn : Insn) (rest : List Insn) (input : CallData) (regs : Regs) (o : Option (Effect × Regs))
    → effect_by (op_of insn.code) insn regs input ≡ o → fault_of insn (length rest) ≡ None
    → (is_return (op_of insn.code) ≡ false → 0 < length rest)
    → ((skip : ℕ) (after : Regs) → skip < length rest → (end : ℕ × ℕ) × (run_from rest input skip after ≡ Some end))
    → (end : ℕ × ℕ) × (goes_on o (run_from rest input) ≡ Some end)
run_from-effect insn rest input regs None e fine more further = absurd (has_effect (op_of insn.code) insn (length rest) regs input fine e)
run_from-effect insn rest input regs (Some (End answer, after)) e fine more further = ((answer, 1), refl)
run_from-effect insn rest input regs (Some (Skip skip, after)) e fine more further =
    let f = further skip after (skips_inside (op_of insn.code) insn (length rest) regs input skip after fine more e) in
    ((f.0.0, f.0.1 + 1), ap counted f.1)

pub run_from-total : (code : List Insn) (input : CallData) (skip : ℕ) (regs : Regs) → skip < length code → AreFine code
    → ends_in_return code ≡ true → (end : ℕ × ℕ) × (run_from code input skip regs ≡ Some end)
run_from-total [] input skip regs lt fine ends = absurd (omega arith)
run_from-total (insn ∷ rest) input zero regs lt fine ends =
    run_from-effect insn rest input regs _ refl fine.0 (some_left insn rest ends)
    (λ skip after below. run_from-total rest input skip after below fine.1 (ends_rest insn rest (omega arith) ends))
run_from-total (insn ∷ rest) input (suc skip) regs lt fine ends =
    run_from-total rest input skip regs (omega arith) fine.1 (ends_rest insn rest (omega arith) ends)

not_empty : (code : List Insn) → ends_in_return code ≡ true → 0 < length code
not_empty [] e = cc
not_empty (insn ∷ code) e = omega arith

pub accepted_answers : (code : List Insn) (input : CallData) → IsAccepted code → (answer : ℕ) × Answers code input answer
accepted_answers code input a =
    let t = run_from-total code input 0 start_regs (not_empty code a.ends) a.fine a.ends in
    (t.0.0, answers_by_run code input t.0.0 t.0.1 t.1)
