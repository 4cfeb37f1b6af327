-- The effect of each instruction of the form on the data of a state.
use Rattle.std.proofs.Common.{◌≡◌, ℕ, zero, suc, ◌+◌, ◌-◌, ◌/◌, ◌%◌, ◌^◌, ◌<◌, Bool, true, false, not, ◌&&◌, cond, List, [], ◌∷◌, length}
use Rattle.std.proofs.Common.{get_or, set, Some, None, ◌⊎◌, inl, inr, refl, sym, ap, ◌∙◌, subst, arith}
use Rattle.std.specs.Prelude.{slice_get, slice_index, bit_and, ◌==◌, nat_lt, nat_le, if◌then◌else◌}
use Rattle.std.specs.List.{AllZip}
use Rattle.std.proofs.lemmas.Bool.{cases_lt, and_parts, ltb-true, both_ways}
use Rattle.std.proofs.lemmas.Nat.{and_assoc, and_mask}
use Rattle.seccomp_compile.specs.bpf_code.declared.machine.Insn.{Insn}
use Rattle.seccomp_compile.specs.bpf_code.declared.machine.CallData.{CallData}
use Rattle.seccomp_compile.specs.bpf_code.declared.machine.Regs.{Regs}
use Rattle.seccomp_compile.specs.bpf_code.declared.machine.Effect.{Effect}
use Rattle.seccomp_compile.specs.bpf_code.declared.machine.Effect.TheVariants as effect
use Rattle.seccomp_compile.specs.bpf_code.declared.ops.Op.{Op}
use Rattle.seccomp_compile.specs.bpf_code.declared.ops.Op.TheVariants.{LoadWord, Alu, Jump, JumpIf}
use Rattle.seccomp_compile.specs.bpf_code.declared.ops.AluOp.TheVariants as alu
use Rattle.seccomp_compile.specs.bpf_code.declared.ops.Operand.TheVariants as operand
use Rattle.seccomp_compile.specs.bpf_code.declared.ops.Test.{Test}
use Rattle.seccomp_compile.specs.bpf_code.declared.ops.Test.TheVariants as test
use Rattle.seccomp_compile.specs.bpf_code.Ops.{op_of}
use Rattle.seccomp_compile.specs.bpf_code.Effects.{effect_by, effect_of, words_of, holds}
use Rattle.seccomp_compile.specs.bpf_code.Accepted.{fault_by, op_fault, is_return}
use Rattle.seccomp_compile.specs.bpf_code.Reading.{IsProgram}
use Rattle.seccomp_compile.proofs.OfBpfCode.FirstFaults.{fine_at, ends_by_last}
use Rattle.seccomp_compile.proofs.OfBpfCode.Runs.{unless_none}
use Rattle.filter_check.specs.filter_paths.Comparing.{compares}
use Rattle.filter_check.specs.filter_paths.Regions.{IsWithin, sets_of, held_word}
use Rattle.filter_check.specs.filter_paths.Covered.{Comes, EndsAt, IsComparison, LeadsOn, LeadsAll}
use Rattle.filter_check.specs.declared.filter_paths.states.State.{State}
use Rattle.filter_check.specs.declared.word_sets.condition.Condition.{Condition}
use Rattle.filter_check.specs.word_sets.Conditions.{meets, meets_all}
use Rattle.filter_check.proofs.Lists.{zip_at, zip_put, zip_back, put_at}
use Rattle.filter_check.proofs.Words.{word_fits, sixteen}

get_within : (code : List Insn) (at : ℕ) (insn : Insn) → slice_get code at ≡ Some insn → at < length code
get_within [] at insn e = cc
get_within (x ∷ code) zero insn e = omega arith
get_within (x ∷ code) (suc at) insn e = let lt = get_within code at insn e in omega (arith, lt)

module _ (code : List Insn) (program : IsProgram code) (state : State) (insn : Insn) (found : slice_get code state.at ≡ Some insn) where
  fine : (op : Op) → op_of insn.code ≡ Some op → op_fault op insn (length code - (state.at + 1)) ≡ None
  fine op is = subst (λ o. fault_by o insn (length code - (state.at + 1)) ≡ None) is
      (fine_at code state.at insn program.accepted.fine found)

  behind : (op : Op) → op_of insn.code ≡ Some op → is_return (Some op) ≡ false → state.at + 1 < length code
  behind op is goes = elim (cases_lt (state.at + 1) (length code)) [
    | inl lt ↦ lt
    | inr le ↦
        let within = get_within code state.at insn found in
        let last : state.at ≡ length code - 1 = omega (arith, le, within) in
        let returns = ends_by_last code insn (omega (arith, within)) (subst (λ n. slice_get code n ≡ Some insn) last found) in
        absurd (both_ways true (sym program.accepted.ends ∙ returns ∙ ap is_return is ∙ goes) refl)
  ]

  -- an operation that does not end the program leads to the next state
  lead_by : (op : Op) (to : State) (skip : ℕ) → op_of insn.code ≡ Some op → to.at ≡ state.at + 1 + skip → to.at < length code
      → ((input : CallData) → Comes to input → Comes state input)
      → ((input : CallData) (regs : Regs) → Comes to input → regs.a ≡ held_word state.held input
      → (after : Regs) × (effect_of op insn regs input ≡ (effect.Skip skip, after)) × (after.a ≡ held_word to.held input))
      → LeadsOn code state to
  lead_by op to skip is at inside narrower does = record {
    later = omega (arith, at);
    inside = inside;
    narrower = narrower;
    leads = λ input regs comes held.
        let d = does input regs comes held in
        let far : skip ≡ to.at - (state.at + 1) = omega (arith, at) in
        (insn, d.0, found, ap (λ o. effect_by o insn regs input) is ∙ ap (λ (out : Effect × Regs). Some out) d.1 ∙ ap (λ n. Some (effect.Skip n, d.0)) far, d.2);
  }

  -- with the same data
  lead_same : (op : Op) (to : State) (skip : ℕ) → op_of insn.code ≡ Some op → to.at ≡ state.at + 1 + skip → to.at < length code
      → to.region ≡ state.region
      → ((input : CallData) (regs : Regs) → Comes state input → regs.a ≡ held_word state.held input
      → (after : Regs) × (effect_of op insn regs input ≡ (effect.Skip skip, after)) × (after.a ≡ held_word to.held input))
      → LeadsAll code state to
  lead_same op to skip is at inside same does = (
    lead_by op to skip is at inside (λ input comes. (comes.0, subst (λ region. IsWithin region input) same comes.1))
        (λ input regs comes held. does input regs (comes.0, subst (λ region. IsWithin region input) same comes.1) held),
    λ input comes. (comes.0, subst (λ region. IsWithin region input) (sym same) comes.1),
  )

  pub load_inside : insn.code ≡ 32 → insn.k < 64
  load_inside e = ltb-true insn.k 64 (and_parts (nat_lt insn.k 64) (insn.k % 4 == 0) (unless_none _ _ (fine LoadWord (ap op_of e)))).0

  pub load_leads : (to : State) → insn.code ≡ 32 → to.at ≡ state.at + 1 → to.region ≡ state.region → to.held.word ≡ insn.k / 4
      → to.held.mask ≡ 4294967295 → LeadsAll code state to
  load_leads to e at same word mask =
      let is : op_of insn.code ≡ Some LoadWord = ap op_of e in
      let more = behind LoadWord is refl in
      lead_same LoadWord to 0 is (omega (arith, at)) (omega (arith, at, more)) same (λ input regs comes held.
      let loaded = slice_index (words_of input) (insn.k / 4) in
      let fits = word_fits input (insn.k / 4) comes.0 in
      let whole : loaded % 4294967296 ≡ loaded = omega (arith, fits) in (
        record regs { a = loaded },
        refl,
        sym (ap (λ n. bit_and (slice_index (words_of input) n) to.held.mask) word ∙ ap (λ n. bit_and loaded n) mask ∙ and_mask loaded 32
            ∙ whole),
      ))

  pub mask_leads : (to : State) → insn.code ≡ 84 → to.at ≡ state.at + 1 → to.region ≡ state.region → to.held.word ≡ state.held.word
      → to.held.mask ≡ bit_and state.held.mask insn.k → LeadsAll code state to
  mask_leads to e at same word mask =
      let is : op_of insn.code ≡ Some (Alu alu.And operand.Number) = ap op_of e in
      let more = behind (Alu alu.And operand.Number) is refl in
      lead_same (Alu alu.And operand.Number) to 0 is (omega (arith, at)) (omega (arith, at, more)) same (λ input regs comes held.
      let was = slice_index (words_of input) state.held.word in (
        record regs { a = bit_and regs.a insn.k },
        refl,
        ap (λ n. bit_and n insn.k) held ∙ and_assoc insn.k was state.held.mask
            ∙ sym (ap (λ n. bit_and (slice_index (words_of input) n) to.held.mask) word ∙ ap (λ n. bit_and was n) mask),
      ))

  pub jump_inside : insn.code ≡ 5 → state.at + 1 + insn.k < length code
  jump_inside e = let lt = ltb-true insn.k (length code - (state.at + 1)) (unless_none _ _ (fine Jump (ap op_of e))) in omega (arith, lt)

  pub jump_leads : (to : State) → insn.code ≡ 5 → to.at ≡ state.at + 1 + insn.k → to.region ≡ state.region → to.held ≡ state.held
      → LeadsAll code state to
  jump_leads to e at same held_same =
      let inside = jump_inside e in
      lead_same Jump to insn.k (ap op_of e) at (omega (arith, at, inside)) same (λ input regs comes held.
      (regs, refl, held ∙ ap (λ h. held_word h input) (sym held_same)))

  pub end_at : insn.code ≡ 6 → EndsAt code state insn.k
  end_at e = λ input regs comes held. (insn, regs, found, ap (λ o. effect_by o insn regs input) (ap op_of e))

  -- comparisons
  jump_op : IsComparison insn → (t : Test) × (op_of insn.code ≡ Some (JumpIf t operand.Number)) ×
      ((a : ℕ) → compares insn a ≡ holds t a insn.k)
  jump_op (inl e) = (test.Eq, ap op_of e, λ a. ap (λ c. cond (c == 21) (a == insn.k) (cond (c == 37) (nat_lt insn.k a) (cond (c == 53) (nat_le insn.k a) (not (bit_and a insn.k == 0))))) e)
  jump_op (inr (inl e)) = (test.Gt, ap op_of e, λ a. ap (λ c. cond (c == 21) (a == insn.k) (cond (c == 37) (nat_lt insn.k a) (cond (c == 53) (nat_le insn.k a) (not (bit_and a insn.k == 0))))) e)
  jump_op (inr (inr (inl e))) = (test.Ge, ap op_of e, λ a. ap (λ c. cond (c == 21) (a == insn.k) (cond (c == 37) (nat_lt insn.k a) (cond (c == 53) (nat_le insn.k a) (not (bit_and a insn.k == 0))))) e)
  jump_op (inr (inr (inr e))) = (test.Set, ap op_of e, λ a. ap (λ c. cond (c == 21) (a == insn.k) (cond (c == 37) (nat_lt insn.k a) (cond (c == 53) (nat_le insn.k a) (not (bit_and a insn.k == 0))))) e)

  pub targets : IsComparison insn → (state.at + 1 + insn.jt < length code) × (state.at + 1 + insn.jf < length code)
  targets e =
      let j = jump_op e in
      let left = length code - (state.at + 1) in
      let p = and_parts (nat_lt insn.jt left) (nat_lt insn.jf left) (unless_none _ _ (fine (JumpIf j.0 operand.Number) j.1)) in
      let a = ltb-true insn.jt left p.0 in
      let b = ltb-true insn.jf left p.1 in
      (omega (arith, a), omega (arith, b))

  -- the effect of a comparison on data whose word under the mask meets it or not
  compare_does : (e : IsComparison insn) (input : CallData) (regs : Regs) (t : Bool) → regs.a ≡ held_word state.held input
      → compares insn (held_word state.held input) ≡ t
      → effect_of (JumpIf (jump_op e).0 operand.Number) insn regs input ≡ (effect.Skip (if t then insn.jt else insn.jf), regs)
  compare_does e input regs t held is =
      let j = jump_op e in
      ap (λ b. (effect.Skip (if b then insn.jt else insn.jf), regs)) (sym (j.2 regs.a) ∙ ap (compares insn) held ∙ is)

  pub compare_leads : (e : IsComparison insn) (to : State) (t : Bool) → to.at ≡ state.at + 1 + (if t then insn.jt else insn.jf)
      → to.held ≡ state.held
      → ((input : CallData) → Comes to input → Comes state input)
      → ((input : CallData) → Comes to input → compares insn (held_word state.held input) ≡ t) → LeadsOn code state to
  compare_leads e to t at held_same narrower is =
      lead_by (JumpIf (jump_op e).0 operand.Number) to (if t then insn.jt else insn.jf) (jump_op e).1 at
      (subst (λ n. n < length code) (sym at) (target t)) narrower (λ input regs comes held.
      (regs, compare_does e input regs t held (is input comes), held ∙ ap (λ h. held_word h input) (sym held_same)))
    where
      target : (t : Bool) → state.at + 1 + (if t then insn.jt else insn.jf) < length code
      target true = (targets e).0
      target false = (targets e).1

  pub both_lead : (e : IsComparison insn) (to : State) → insn.jt ≡ insn.jf → to.at ≡ state.at + 1 + insn.jt → to.held ≡ state.held
      → to.region ≡ state.region → LeadsAll code state to
  both_lead e to same at held_same region_same =
      lead_same (JumpIf (jump_op e).0 operand.Number) to insn.jt (jump_op e).1 at
      (subst (λ n. n < length code) (sym at) (targets e).0) region_same (λ input regs comes held.
      (regs, compare_does e input regs (compares insn (held_word state.held input)) held refl ∙ ap (λ n. (effect.Skip n, regs)) (either (compares insn (held_word state.held input))), held ∙ ap (λ h. held_word h input) (sym held_same)))
    where
      either : (t : Bool) → (if t then insn.jt else insn.jf) ≡ insn.jt
      either true = refl
      either false = sym same

  -- the data that the comparison leaves
  abbrev pub keep : Bool → Bool → Bool
  keep true x = x
  keep false x = not x

  keep_is : (t x : Bool) → keep t x ≡ true → x ≡ t
  keep_is true x h = h
  keep_is false true h = sym h
  keep_is false false h = refl

  is_keep : (t x : Bool) → x ≡ t → keep t x ≡ true
  is_keep true x h = h
  is_keep false x h = ap not h

  keep_other : (t x : Bool) → keep (not t) x ≡ false → x ≡ t
  keep_other true true h = refl
  keep_other true false h = sym h
  keep_other false true h = h
  keep_other false false h = refl

  abbrev pub the_word : CallData → ℕ
  the_word input = slice_index (words_of input) state.held.word

  abbrev pub the_set : List Condition
  the_set = get_or (sets_of state.region) state.held.word []

  -- the words of the set on which the comparison holds, or on which it fails
  abbrev pub CutIs : Bool → (ℕ → Bool) → Type 0
  CutIs t v = (word : ℕ) → word < 2 ^ 32 → v word ≡ (meets_all the_set word && keep t (compares insn (bit_and word state.held.mask)))

  pub hit_cut : (condition : Condition) (v : ℕ → Bool) (set : List Condition) →
      ((word : ℕ) → meets condition word ≡ compares insn (bit_and word state.held.mask))
      → set ≡ get_or (sets_of state.region) state.held.word []
      → ((word : ℕ) → word < 2 ^ 32 → v word ≡ (meets_all set word && meets condition word)) → CutIs true v
  hit_cut condition v set is same cut word lt = cut word lt ∙ ap (λ s. meets_all s word && meets condition word) same
      ∙ ap (λ t. meets_all (get_or (sets_of state.region) state.held.word []) word && t) (is word)

  pub miss_cut : (condition failing : Condition) (v : ℕ → Bool) (set : List Condition)
      → ((word : ℕ) → meets condition word ≡ compares insn (bit_and word state.held.mask))
      → ((word : ℕ) → meets failing word ≡ not (meets condition word)) → set ≡ get_or (sets_of state.region) state.held.word []
      → ((word : ℕ) → word < 2 ^ 32 → v word ≡ (meets_all set word && meets failing word)) → CutIs false v
  miss_cut condition failing v set is fails same cut word lt = cut word lt ∙ ap (λ s. meets_all s word && meets failing word) same
      ∙ ap (λ t. meets_all (get_or (sets_of state.region) state.held.word []) word && t) (fails word ∙ ap not (is word))

  at_word : (input : CallData) → Comes state input → meets_all the_set (the_word input) ≡ true
  at_word input comes =
      let l = sixteen input comes.0 in
      zip_at (λ (set : List Condition) (word : ℕ). meets_all set word ≡ true) (sets_of state.region)
      (words_of input) state.held.word [] 0 comes.1 (omega (arith, l, state.held.inside))

  all_meet : (t : Bool) (input : CallData) → CutIs (not t) (λ word. false) → Comes state input → compares insn (held_word state.held input) ≡ t
  all_meet t input cut comes =
      let word = slice_index (words_of input) state.held.word in
      let c = cut word (word_fits input state.held.word comes.0) in
      let k = keep (not t) (compares insn (bit_and word state.held.mask)) in
      keep_other t _ (sym (c ∙ ap (λ b. b && k) (at_word input comes)))

  pub empty_leads : (e : IsComparison insn) (to : State) (t : Bool) → CutIs (not t) (λ word. false)
      → to.at ≡ state.at + 1 + (if t then insn.jt else insn.jf) → to.held ≡ state.held → to.region ≡ state.region → LeadsAll code state to
  empty_leads e to t none at held_same region_same =
      let back : (input : CallData) → Comes to input → Comes state input = λ input comes. (comes.0, subst (λ region. IsWithin region input) region_same comes.1) in (
        compare_leads e to t at held_same back (λ input comes. all_meet t input none (back input comes)),
        λ input comes. (comes.0, subst (λ region. IsWithin region input) (sym region_same) comes.1),
      )

  cut_within : (to : State) (t : Bool) (v : List Condition) (input : CallData) → CutIs t (meets_all v)
      → sets_of to.region ≡ set (sets_of state.region) state.held.word v → Comes to input
      → Comes state input × (compares insn (held_word state.held input) ≡ t)
  cut_within to t v input cut same comes =
      let l = sixteen input comes.0 in
      let R : List Condition → ℕ → Type 0 = λ (set : List Condition) (word : ℕ). meets_all set word ≡ true in
      let inside : AllZip R (set (sets_of state.region) state.held.word v) (words_of input) = subst (λ sets. AllZip R sets (words_of input)) same comes.1 in
      let here = put_at R (sets_of state.region) (words_of input) state.held.word v 0 (omega (arith, l, state.held.inside)) inside in
      let word = slice_index (words_of input) state.held.word in
      let both = and_parts (meets_all the_set word) (keep t (compares insn (bit_and word state.held.mask))) (sym (cut word (word_fits input state.held.word comes.0)) ∙ here) in
      ((comes.0, zip_back R (sets_of state.region) (words_of input) state.held.word v [] 0 inside both.0), keep_is t _ both.1)

  pub cut_leads : (e : IsComparison insn) (to : State) (t : Bool) (v : List Condition) → CutIs t (meets_all v)
      → sets_of to.region ≡ set (sets_of state.region) state.held.word v → to.at ≡ state.at + 1 + (if t then insn.jt else insn.jf)
      → to.held ≡ state.held → LeadsOn code state to
  cut_leads e to t v cut same at held_same = compare_leads e to t at held_same (λ input comes. (cut_within to t v input cut same comes).0)
      (λ input comes. (cut_within to t v input cut same comes).1)

  cut_comes : (to : State) (t : Bool) (v : List Condition) (input : CallData) → CutIs t (meets_all v)
      → sets_of to.region ≡ set (sets_of state.region) state.held.word v → Comes state input
      → compares insn (held_word state.held input) ≡ t → Comes to input
  cut_comes to t v input cut same comes meets_it =
      let R : List Condition → ℕ → Type 0 = λ (set : List Condition) (word : ℕ). meets_all set word ≡ true in
      let word = slice_index (words_of input) state.held.word in
      let k = keep t (compares insn (bit_and word state.held.mask)) in
      let here : meets_all v word ≡ true = cut word (word_fits input state.held.word comes.0) ∙ ap (λ b. b && k) (at_word input comes) ∙ is_keep t _ meets_it in
      (comes.0, subst (λ sets. AllZip R sets (words_of input)) (sym same) (zip_put R (sets_of state.region) (words_of input) state.held.word v 0 comes.1 here))

  pub cut_either : (first second : State) (v w : List Condition) (input : CallData) → CutIs true (meets_all v) → CutIs false (meets_all w)
      → sets_of first.region ≡ set (sets_of state.region) state.held.word v
      → sets_of second.region ≡ set (sets_of state.region) state.held.word w → Comes state input → Comes first input ⊎ Comes second input
  cut_either first second v w input hit miss same other comes = by (compares insn (held_word state.held input)) refl
    where
      by : (t : Bool) → compares insn (held_word state.held input) ≡ t → Comes first input ⊎ Comes second input
      by true h = inl (cut_comes first true v input hit same comes h)
      by false h = inr (cut_comes second false w input miss other comes h)
