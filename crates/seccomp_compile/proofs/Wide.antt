-- Rules that look at the high 32 bits of an argument.
use Rattle.std.proofs.Common.{◌≡◌, zero, suc, ℕ, ◌+◌, ◌*◌, ◌/◌, ◌^◌, ◌≤◌, Bool, true, false, cond, List, [], ◌∷◌, get_or, Some, None}
use Rattle.std.proofs.Common.{refl, sym, ap, ◌∙◌, subst, arith}
use Rattle.std.specs.Prelude.{◌==◌, not, slice_index, flat_map}
use Rattle.call_rules.specs.bpf_code.declared.machine.CallData.{CallData}
use Rattle.call_rules.specs.bpf_code.Effects.{words_of, halves}
use Rattle.call_rules.specs.Widened.{Widened}
use Rattle.call_rules.specs.declared.actions.Action.{Action}
use Rattle.call_rules.specs.declared.rules.CallRule.{CallRule}
use Rattle.call_rules.specs.Action.{first_action, unless_wide}
use Rattle.call_rules.specs.Sizes.{wide_len}
use Rattle.seccomp_compile.specs.Decisions.{Decision, decide, is_end, LooksInside}
use Rattle.seccomp_compile.specs.Lengths.{most_of, PathWithin}
use Rattle.seccomp_compile.specs.Rules.{past_wide, DecidesCases, DecidesCall}
use Rattle.seccomp_compile.proofs.Bounds.{jump_over_one, path_more}

high_half : (args : List ℕ) (arg at : ℕ) → at ≡ 2 * arg + 1 → get_or (flat_map halves args) at 0 ≡ get_or args arg 0 / 2 ^ 32
high_half [] arg at e = refl
high_half (x ∷ args) zero at e = let second : at ≡ 1 = omega arith in rw second refl
high_half (x ∷ args) (suc arg) zero e = absurd (omega arith)
high_half (x ∷ args) (suc arg) (suc zero) e = absurd (omega arith)
high_half (x ∷ args) (suc arg) (suc (suc at)) e = high_half args arg at (omega arith)

high_word : (input : CallData) (arg : ℕ) → slice_index (words_of input) ((20 + 8 * arg) / 4) ≡ slice_index input.args arg / 2 ^ 32
high_word input arg =
    let place : (20 + 8 * arg) / 4 ≡ suc (suc (suc (suc (2 * arg + 1)))) = omega arith in
    ap (slice_index (words_of input)) place ∙ high_half input.args arg (2 * arg + 1) refl

turned : (b : Bool) (wide narrow : Action) → cond b narrow wide ≡ cond (not b) wide narrow
turned true wide narrow = refl
turned false wide narrow = refl

wide_decides : (input : CallData) (wide : Widened) (narrow : Decision) (action : Action) → ((word : ℕ) → decide narrow input word ≡ action)
    → (word : ℕ) → decide (past_wide wide narrow) input word ≡ unless_wide input (Some wide) action
wide_decides input wide narrow action h word =
    let high = slice_index input.args wide.arg / 2 ^ 32 in
    ap (λ looked. cond (looked == 0) (decide narrow input looked) wide.action) (high_word input wide.arg)
    ∙ ap (λ other. cond (high == 0) other wide.action) (h high)
    ∙ turned (high == 0) wide.action action

-- a rule that looks at no high word is its cases
pub call_narrow : (call : CallRule) (decision : Decision) → call.wide ≡ None → DecidesCases call decision → DecidesCall call decision
call_narrow call decision is d = record {
  decides = λ input word. d.decides input word ∙ sym (ap (λ wide. unless_wide input wide (first_action input call)) is);
  most = omega (arith, d.most);
  path = λ short. path_more decision 50 55 (omega arith) (d.path short);
  inside = d.inside;
}

-- one that looks at a high word first
pub call_wide : (call : CallRule) (wide : Widened) (narrow decision : Decision) → wide.arg ≤ 5 → call.wide ≡ Some wide
    → DecidesCases call narrow → decision ≡ past_wide wide narrow → DecidesCall call decision
call_wide call wide narrow decision le is d e = record {
  decides = λ input word.
      ap (λ decision. decide decision input word) e
      ∙ wide_decides input wide narrow (first_action input call) (d.decides input) word
      ∙ sym (ap (λ wide. unless_wide input wide (first_action input call)) is);
  most =
      let same = ap most_of e in
      let one = ap wide_len is in
      omega (arith, same, one, jump_over_one (is_end narrow), d.most);
  path = λ short. subst (PathWithin 55) (sym e) (52, (50, omega arith, d.path short, omega arith), omega arith);
  inside = subst LooksInside (sym e) (omega arith, omega arith, (tt, d.inside));
}
