-- The words that a program loads decide its answer.
use Rattle.std.proofs.Common.{◌≡◌, ◌≢◌, ℕ, ◌+◌, ◌-◌, ◌/◌, ◌%◌, ◌<◌, Bool, true, false, List, [], ◌∷◌, length, get_or, set}
use Rattle.std.proofs.Common.{Some, None, ◌⊎◌, inl, inr, refl, sym, ap, ◌∙◌, subst, arith, get_or-set_same, get_or-set_other}
use Rattle.std.specs.Prelude.{slice_get, slice_index, ◌==◌, ◌||◌, nat_lt}
use Rattle.std.specs.List.{list_any, AllByRecursion}
use Rattle.std.proofs.lemmas.Bool.{cases_eq, cases_lt, and_parts, ltb-true, eqb-true}
use Rattle.std.proofs.lemmas.Option.{slice_get_within, get_or_from_slice_get}
use Rattle.seccomp_compile.specs.bpf_code.declared.machine.Insn.{Insn}
use Rattle.seccomp_compile.specs.bpf_code.declared.machine.CallData.{CallData}
use Rattle.seccomp_compile.specs.bpf_code.declared.machine.Regs.{Regs}
use Rattle.seccomp_compile.specs.bpf_code.declared.machine.Effect.TheVariants as effect
use Rattle.seccomp_compile.specs.bpf_code.declared.ops.Op.TheVariants.{LoadWord}
use Rattle.seccomp_compile.specs.bpf_code.Ops.{op_of}
use Rattle.seccomp_compile.specs.bpf_code.Effects.{effect_by, words_of}
use Rattle.seccomp_compile.specs.bpf_code.Accepted.{fault_by}
use Rattle.seccomp_compile.specs.bpf_code.Reading.{IsProgram}
use Rattle.seccomp_compile.specs.bpf_code.Meaning.{Ends, Answers, stops, continues}
use Rattle.seccomp_compile.specs.Form.{is_of_form, form_codes, AreOfForm}
use Rattle.seccomp_compile.proofs.OfBpfCode.FirstFaults.{fine_at}
use Rattle.seccomp_compile.proofs.OfBpfCode.Runs.{unless_none}

-- a word that a program loads is one of the sixteen
pub load_fits : (code : List Insn) (at : ℕ) (insn : Insn) → IsProgram code → slice_get code at ≡ Some insn → insn.code ≡ 32 → insn.k / 4 < 16
load_fits code at insn program found e =
    let left = length code - (at + 1) in
    let fine : fault_by (Some LoadWord) insn left ≡ None =
    subst (λ o. fault_by o insn left ≡ None) (ap op_of e) (fine_at code at insn program.accepted.fine found) in
    let lt = ltb-true insn.k 64 (and_parts (nat_lt insn.k 64) (insn.k % 4 == 0) (unless_none _ _ fine)).0 in
    omega (arith, lt)

-- the words that the first instructions load are marked
abbrev pub AreMarked : List Insn → ℕ → List Bool → Type 0
AreMarked code count marks = (at : ℕ) (insn : Insn) → at < count → slice_get code at ≡ Some insn → insn.code ≡ 32
    → get_or marks (insn.k / 4) false ≡ true

same_insn : (one other : Insn) → Some one ≡ Some other → one ≡ other
same_insn one other e = cc

still_marked : (marks : List Bool) (i j : ℕ) → i < length marks → get_or marks j false ≡ true → get_or (set marks i true) j false ≡ true
still_marked marks i j lt h = elim (cases_eq j i) [
  | inl e ↦ subst (λ n. get_or (set marks i true) n false ≡ true) (sym e) (get_or-set_same marks i true false lt)
  | inr ne ↦ get_or-set_other marks i j true false ne ∙ h
]

pub marked_more : (code : List Insn) (count : ℕ) (here : Insn) (marks : List Bool) → here.k / 4 < length marks
    → slice_get code count ≡ Some here → AreMarked code count marks → AreMarked code (count + 1) (set marks (here.k / 4) true)
marked_more code count here marks fits found marked at insn lt e load = elim (cases_lt at count) [
  | inl before ↦ still_marked marks (here.k / 4) (insn.k / 4) fits (marked at insn before e load)
  | inr le ↦
      let same : at ≡ count = omega (arith, lt, le) in
      let is : here ≡ insn = same_insn here insn (sym found ∙ ap (slice_get code) (sym same) ∙ e) in
      subst (λ (one : Insn). get_or (set marks (here.k / 4) true) (one.k / 4) false ≡ true) is
      (get_or-set_same marks (here.k / 4) true false fits)
]

pub marked_none : (code : List Insn) (count : ℕ) (here : Insn) (marks : List Bool) → here.code ≢ 32
    → slice_get code count ≡ Some here → AreMarked code count marks → AreMarked code (count + 1) marks
marked_none code count here marks other found marked at insn lt e load = elim (cases_lt at count) [
  | inl before ↦ marked at insn before e load
  | inr le ↦
      let same : at ≡ count = omega (arith, lt, le) in
      let is : here ≡ insn = same_insn here insn (sym found ∙ ap (slice_get code) (sym same) ∙ e) in
      absurd (other (ap (λ (one : Insn). one.code) is ∙ load))
]

-- the data are alike at the word of each load
abbrev pub AreAlike : List Insn → CallData → CallData → Type 0
AreAlike code one other = (at : ℕ) (insn : Insn) → slice_get code at ≡ Some insn → insn.code ≡ 32
    → slice_index (words_of one) (insn.k / 4) ≡ slice_index (words_of other) (insn.k / 4)

or_parts : (x y : Bool) → (x || y) ≡ true → (x ≡ true) ⊎ (y ≡ true)
or_parts true y h = inl refl
or_parts false y h = inr h

any_of : (P : ℕ → Type 0) (code : ℕ) (codes : List ℕ) → AllByRecursion P codes → list_any (λ one. one == code) codes ≡ true → P code
any_of P code [] all h = cc
any_of P code (one ∷ codes) all h = elim (or_parts (one == code) (list_any (λ one. one == code) codes) h) [
  | inl e ↦ subst P (eqb-true one code e) all.0
  | inr more ↦ any_of P code codes all.1 more
]

-- an instruction of the form does the same on data that are alike
same_effect : (insn : Insn) (regs : Regs) (one other : CallData) → is_of_form insn ≡ true
    → (insn.code ≡ 32 → slice_index (words_of one) (insn.k / 4) ≡ slice_index (words_of other) (insn.k / 4))
    → effect_by (op_of insn.code) insn regs one ≡ effect_by (op_of insn.code) insn regs other
same_effect insn regs one other form alike =
    any_of Same insn.code form_codes (
      (λ e. ap (λ n. Some (effect.Skip 0, record regs { a = n })) (alike e)),
      ((λ e. refl), ((λ e. refl), ((λ e. refl), ((λ e. refl), ((λ e. refl), ((λ e. refl), ((λ e. refl), tt))))))),
    )
    form refl
  where
    Same : ℕ → Type 0
    Same code = insn.code ≡ code → effect_by (op_of code) insn regs one ≡ effect_by (op_of code) insn regs other

form_at : (code : List Insn) (at : ℕ) (insn : Insn) → AreOfForm code → slice_get code at ≡ Some insn → is_of_form insn ≡ true
form_at code at insn form found =
    subst (λ (one : Insn). is_of_form one ≡ true) (get_or_from_slice_get code at insn insn found)
    (form at insn (slice_get_within code at insn found))

same_ends : (code : List Insn) (one other : CallData) (at : ℕ) (regs : Regs) (answer count : ℕ) → AreOfForm code
    → AreAlike code one other → Ends code one at regs answer count → Ends code other at regs answer count
same_ends code one other at regs answer count form alike (stops _ _ after insn _ found effect) =
    stops at regs after insn answer found
    (sym (same_effect insn regs one other (form_at code at insn form found) (alike at insn found)) ∙ effect)
same_ends code one other at regs answer count form alike (continues _ skip _ after insn _ rest found effect more) =
    continues at skip regs after insn answer rest found
    (sym (same_effect insn regs one other (form_at code at insn form found) (alike at insn found)) ∙ effect)
    (same_ends code one other (at + 1 + skip) after answer rest form alike more)

pub same_answer : (code : List Insn) (one other : CallData) (answer : ℕ) → AreOfForm code → AreAlike code one other
    → Answers code one answer → Answers code other answer
same_answer code one other answer form alike (count, ends) = (count, same_ends code one other 0 _ answer count form alike ends)
