-- The whole program.
use Rattle.std.proofs.Common.{◌≡◌, zero, suc, ℕ, ◌+◌, ◌<◌, ◌≤◌, true, false, List, [], ◌∷◌, length, Some, subst, arith}
use Rattle.std.specs.Prelude.{slice_get}
use Rattle.std.specs.List.{All}
use Rattle.call_rules.specs.bpf_code.declared.machine.Insn.{Insn}
use Rattle.call_rules.specs.bpf_code.declared.machine.CallData.{CallData}
use Rattle.call_rules.specs.bpf_code.Ops.{op_of}
use Rattle.call_rules.specs.bpf_code.Meaning.{start_regs, IsCallData}
use Rattle.call_rules.specs.bpf_code.Accepted.{IsAccepted, AreFine, is_scratch_load, ends_in_return}
use Rattle.call_rules.specs.bpf_code.Reading.{Fits, IsProgram}
use Rattle.call_rules.proofs.OfBpfCode.Chunks.{fitting_program}
use Rattle.call_rules.proofs.OfBpfCode.Endings.{answers_by_run, answers_within_by_run}
use Rattle.call_rules.specs.declared.rules.RuleSet.{RuleSet}
use Rattle.call_rules.specs.Action.{word_of, case_action}
use Rattle.seccomp_compile.specs.Compiled.{Decides, DecidesWithin, longest_path}
use Rattle.seccomp_compile.specs.Decisions.{Decision, ends, looks, splits, both, decide, is_end}
use Rattle.seccomp_compile.specs.Lengths.{most_of, PathWithin}
use Rattle.seccomp_compile.specs.Placed.{EndsWithin, AreSound, ends_well, IsSound, Placed}
use Rattle.seccomp_compile.specs.Rules.{DecidesRules}
use Rattle.seccomp_compile.specs.ShortCases.{HaveShortCases}
use Rattle.seccomp_compile.proofs.Steps.{from_place-all}
use Rattle.seccomp_compile.proofs.Bounds.{path_more}

fine_if_sound : (code : List Insn) → AreSound code → AreFine code
fine_if_sound [] h = tt
fine_if_sound (insn ∷ code) h = (h.0, fine_if_sound code h.2)

no_load : (code : List Insn) (at : ℕ) (insn : Insn) → AreSound code → slice_get code at ≡ Some insn
    → is_scratch_load (op_of insn.code) ≡ false
no_load [] at insn h e = cc
no_load (x ∷ code) zero insn h e = let same : x ≡ insn = cc in subst (λ insn. is_scratch_load (op_of insn.code) ≡ false) same h.1
no_load (x ∷ code) (suc at) insn h e = no_load code at insn h.2 e

ends_somewhere : (code : List Insn) → 0 < length code → ends_well code ≡ true → ends_in_return code ≡ true
ends_somewhere [] some e = absurd (omega arith)
ends_somewhere (insn ∷ code) some e = e

pub sound_accepted : (code : List Insn) → 0 < length code → length code ≤ 4096 → IsSound code → IsAccepted code
sound_accepted code some short sound = record {
  short = short;
  fine = fine_if_sound code sound.fine;
  ends = ends_somewhere code some sound.ends;
  stored = λ at insn e is path. let h = no_load code at insn sound.fine e in cc;
}

pub placed_program : (decision : Decision) (code : List Insn) (place : ℕ) → most_of decision ≤ 4096 → All Fits code
    → Placed decision [] code place → IsProgram code
placed_program decision code place few fits p =
    fitting_program code fits (sound_accepted code (omega (arith, p.some, p.inside)) (omega (arith, p.short, few)) p.sound)

-- every tree has a bound of its paths
some_path : (decision : Decision) → (limit : ℕ) × PathWithin limit decision
some_path (ends action) = (1, omega arith)
some_path (looks offset mask next) = let n = some_path next in (n.0 + 3, (n.0, n.1, omega arith))
some_path (splits comparison number miss hit) =
    let m = some_path miss in
    let h = some_path hit in
    (m.0 + h.0 + 2, (m.0 + h.0, path_more miss m.0 (m.0 + h.0) (omega arith) m.1, path_more hit h.0 (m.0 + h.0) (omega arith) h.1, omega arith))
some_path (both first second action otherwise) = let o = some_path otherwise in (o.0 + 7, (o.0, o.1, omega arith, omega arith))

whole_ends : (rules : RuleSet) (decision : Decision) (code : List Insn) (place limit : ℕ) (input : CallData) → is_end decision ≡ false
    → Placed decision [] code place → DecidesRules rules decision → IsCallData input → PathWithin limit decision →
    EndsWithin code input start_regs (case_action rules input) limit
whole_ends rules decision code place limit input tree p d fits path =
    subst (λ answer. EndsWithin code input start_regs answer limit) (d.decides input 0 fits.nr)
    (subst (λ code. EndsWithin code input start_regs (decide decision input 0) limit) (from_place-all code place (p.front tree))
    (p.does input start_regs limit path))

pub placed_decides : (rules : RuleSet) (decision : Decision) (code : List Insn) (place : ℕ) → is_end decision ≡ false
    → Placed decision [] code place → DecidesRules rules decision → Decides code rules
placed_decides rules decision code place tree p d input fits =
    let path = some_path decision in
    let e = whole_ends rules decision code place path.0 input tree p d fits path.1 in
    answers_by_run code input (word_of (case_action rules input)) e.steps e.ends

pub placed_within : (rules : RuleSet) (decision : Decision) (code : List Insn) (place : ℕ) → is_end decision ≡ false
    → Placed decision [] code place → DecidesRules rules decision → HaveShortCases rules → DecidesWithin longest_path code rules
placed_within rules decision code place tree p d short input fits =
    let e = whole_ends rules decision code place longest_path input tree p d fits (d.path short) in
    answers_within_by_run code input (word_of (case_action rules input)) e.steps longest_path e.within e.ends
