-- A program takes one path on the data of a call.
use Rattle.std.proofs.Common.{◌≡◌, ℕ, ◌+◌, Bool, true, false, List, ◌∷◌, Some, None, refl, sym, ap, ◌∙◌, subst, true≢false}
use Rattle.std.specs.Prelude.{Option, slice_get}
use Rattle.seccomp_compile.specs.bpf_code.declared.machine.Insn.{Insn}
use Rattle.seccomp_compile.specs.bpf_code.declared.machine.CallData.{CallData}
use Rattle.seccomp_compile.specs.bpf_code.declared.machine.Regs.{Regs}
use Rattle.seccomp_compile.specs.bpf_code.declared.machine.Effect.{Effect}
use Rattle.seccomp_compile.specs.bpf_code.declared.machine.Effect.TheVariants.{End, Skip}
use Rattle.seccomp_compile.specs.bpf_code.Ops.{op_of}
use Rattle.seccomp_compile.specs.bpf_code.Effects.{effect_by}
use Rattle.filter_check.specs.filter_paths.Traces.{Takes, ends, goes_on}

same_some : (x y : Insn) → Some x ≡ Some y → x ≡ y
same_some x y e = cc

-- an instruction has one effect
same_effect : (code : List Insn) (input : CallData) (at : ℕ) (regs : Regs) (insn other : Insn) (one two : Option (Effect × Regs))
    → slice_get code at ≡ Some insn → effect_by (op_of insn.code) insn regs input ≡ one → slice_get code at ≡ Some other
    → effect_by (op_of other.code) other regs input ≡ two → one ≡ two
same_effect code input at regs insn other one two found effect found_other effect_other =
    let e : insn ≡ other = same_some insn other (sym found ∙ found_other) in
    sym effect ∙ ap (λ i. effect_by (op_of i.code) i regs input) e ∙ effect_other

is_end : Option (Effect × Regs) → Bool
is_end None = false
is_end (Some (End answer, regs)) = true
is_end (Some (Skip skip, regs)) = false

skip_in : Option (Effect × Regs) → ℕ
skip_in None = 0
skip_in (Some (End answer, regs)) = 0
skip_in (Some (Skip skip, regs)) = skip

regs_in : Regs → Option (Effect × Regs) → Regs
regs_in other None = other
regs_in other (Some (effect, regs)) = regs

ends_or_goes_on : (answer skip : ℕ) (regs after : Regs) → ◌≡◌ {A = Option (Effect × Regs)} (Some (End answer, regs))
    (Some (Skip skip, after)) → ⊥
unfolding is_end
ends_or_goes_on answer skip regs after e = true≢false (ap is_end e)

same_skip : (one other : ℕ) (regs after : Regs) → ◌≡◌ {A = Option (Effect × Regs)} (Some (Skip one, regs)) (Some (Skip other, after))
    → one ≡ other
unfolding skip_in
same_skip one other regs after e = ap skip_in e

same_after : (one other : ℕ) (regs after : Regs) → ◌≡◌ {A = Option (Effect × Regs)} (Some (Skip one, regs)) (Some (Skip other, after))
    → regs ≡ after
unfolding regs_in
same_after one other regs after e = ap (regs_in regs) e

pub same_path : (code : List Insn) (input : CallData) (at : ℕ) (regs : Regs) (path other : List ℕ) (answer own : ℕ)
    → Takes code input at regs path answer → Takes code input at regs other own → path ≡ other
same_path code input at regs path other answer own (ends _ _ after insn _ found effect) (ends _ _ then next _ found_other effect_other) =
    refl
same_path code input at regs path other answer own (ends _ _ after insn _ found effect)
    (goes_on _ skip _ then next _ _ found_other effect_other more) =
    absurd (ends_or_goes_on answer skip after then (same_effect code input at regs insn next _ _ found effect found_other effect_other))
same_path code input at regs path other answer own (goes_on _ skip _ after insn _ _ found effect more)
    (ends _ _ then next _ found_other effect_other) =
    absurd (ends_or_goes_on own skip then after (same_effect code input at regs next insn _ _ found_other effect_other found effect))
same_path code input at regs path other answer own (goes_on _ skip _ after insn rest _ found effect more)
    (goes_on _ far _ then next others _ found_other effect_other further) =
    let e = same_effect code input at regs insn next _ _ found effect found_other effect_other in
    let here : Takes code input (at + 1 + skip) after others own =
    subst (λ n. Takes code input (at + 1 + n) after others own) (sym (same_skip skip far after then e))
    (subst (λ r. Takes code input (at + 1 + far) r others own) (sym (same_after skip far after then e)) further) in
    ap (λ p. at ∷ p) (same_path code input (at + 1 + skip) after rest others answer own more here)
