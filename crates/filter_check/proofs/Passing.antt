-- The lesser of differences at a state, by what its instruction does.
use Rattle.std.proofs.Common.{◌≡◌, ℕ, ◌+◌, ◌-◌, List, [], ◌∷◌, Some, None, ◌⊎◌, inl, inr, refl, sym, subst, arith, ◌∙◌, Bool, true, false, not}
use Rattle.std.specs.Prelude.{Option, ◌≢◌}
use Rattle.std.specs.Bool.{OnTrue, OnFalse}
use Rattle.std.proofs.lemmas.Bool.{cases_eq}
use Rattle.seccomp_compile.specs.bpf_code.declared.machine.Insn.{Insn}
use Rattle.seccomp_compile.specs.bpf_code.declared.machine.CallData.{CallData}
use Rattle.seccomp_compile.specs.bpf_code.Effects.{words_of}
use Rattle.filter_check.specs.filter_paths.Traces as traces
use Rattle.filter_check.specs.filter_paths.Traces.{Takes}
use Rattle.filter_check.specs.filter_paths.Regions.{IsWithin}
use Rattle.filter_check.specs.filter_paths.Covered.{Comes, EndsAt, HasLeast, LeadsOn}
use Rattle.filter_check.specs.declared.filter_paths.states.State.{State}
use Rattle.filter_check.specs.declared.filter_paths.states.End.{End}
use Rattle.filter_check.specs.declared.differences.Difference.{Difference}
use Rattle.filter_check.specs.Order.{IsNotAfter}
use Rattle.filter_check.specs.Differing.{IsNoLater, IsPassed, IsLesserAt, IsLesser, ComesOf, DiffersAtState, Reaches, difference_at}
use Rattle.filter_check.proofs.Sorting.{not_after_then, not_after_below}
use Rattle.filter_check.proofs.Least.{later, kept_on, no_later_self}

-- no data of the state precede the old difference
pub lesser_passed : (code : List Insn) (state : State) (theirs : ℕ) (old : Option Difference) → IsPassed old state.region
    → IsLesser code state theirs old old
lesser_passed code state theirs old passed =
    record { comes_of = inl refl; kept = no_later_self old; no_later = λ input comes. inl (passed input comes.0 comes.1) }

pub no_later_from : (found : Option Difference) (least input : CallData) → IsNotAfter (words_of least) (words_of input)
    → IsNoLater found least → IsNoLater found input
no_later_from None least input below far = absurd far
no_later_from (Some one) least input below far = not_after_then (words_of one.at) (words_of least) (words_of input) far below

-- the program ends at the state
reaches_here : (code : List Insn) (state : State) (input : CallData) (answer : ℕ) → EndsAt code state answer → Comes state input
    → Reaches code state input answer
reaches_here code state input answer ends_at comes = λ regs held.
    let step = ends_at input regs comes held in
    (state.at ∷ [], traces.ends state.at regs step.1 step.0 answer step.2 step.3)

pub lesser_end : (code : List Insn) (state : State) (theirs : ℕ) (old new : Option Difference) (end : End) → end.region ≡ state.region
    → HasLeast end → EndsAt code state end.answer → IsLesserAt end theirs old new → IsLesser code state theirs old new
lesser_end code state theirs old new end same one ends_at at = record {
  comes_of = comes at.comes_of;
  kept = at.kept;
  no_later = λ input there. no_later input there;
}
  where
    comes : (new ≡ old) ⊎ ((theirs ≢ end.answer) × (new ≡ Some (difference_at theirs end))) → ComesOf code state theirs old new
    comes (inl e) = inl e
    comes (inr (ne, e)) =
        let there : Comes state end.least = (one.0, subst (λ region. IsWithin region end.least) same one.1) in
        inr (
          difference_at theirs end,
          e,
          refl,
          record {
            comes = there;
            reaches = reaches_here code state end.least end.answer ends_at there;
            differ = ne;
          },
        )

    no_later : (input : CallData) → Comes state input → IsNoLater new input ⊎ Reaches code state input theirs
    no_later input there = elim (cases_eq theirs end.answer) [
      | inl e ↦ inr (subst (Reaches code state input) (sym e) (reaches_here code state input end.answer ends_at there))
      | inr ne ↦ inl (no_later_from new end.least input
          (not_after_below (words_of end.least) (words_of input)
          (one.2 input there.0 (subst (λ region. IsWithin region input) (sym same) there.1)))
          (at.no_later ne))
    ]

-- one more step at the front of a path
reaches_more : (code : List Insn) (state to : State) (input : CallData) (answer : ℕ) → LeadsOn code state to → Comes to input
    → Reaches code to input answer → Reaches code state input answer
reaches_more code state to input answer on comes reaches = λ regs held.
    let step = on.leads input regs comes held in
    let path = reaches step.1 step.4 in
    let far : to.at ≡ state.at + 1 + (to.at - (state.at + 1)) = omega (arith, on.later) in (
      state.at ∷ path.0,
      traces.goes_on state.at (to.at - (state.at + 1)) regs step.1 step.0 path.0 answer step.2 step.3
          (subst (λ at. Takes code input at step.1 path.0 answer) far path.1),
    )

differs_more : (code : List Insn) (state to : State) (found : Difference) → LeadsOn code state to → DiffersAtState code to found
    → DiffersAtState code state found
differs_more code state to found on h = record {
  comes = on.narrower found.at h.comes;
  reaches = reaches_more code state to found.at found.ours on h.comes h.reaches;
  differ = h.differ;
}

comes_more : (code : List Insn) (state to : State) (theirs : ℕ) (old mid new : Option Difference) → LeadsOn code state to
    → ComesOf code state theirs old mid → ComesOf code to theirs mid new → ComesOf code state theirs old new
comes_more code state to theirs old mid new on (inl e) (inl f) = inl (f ∙ e)
comes_more code state to theirs old mid new on (inr (found, e, same, h)) (inl f) = inr (found, f ∙ e, same, h)
comes_more code state to theirs old mid new on before (inr (found, e, same, h)) =
    inr (found, e, same, differs_more code state to found on h)

reaches_or : (code : List Insn) (state to : State) (theirs : ℕ) (mid new : Option Difference) (input : CallData) → LeadsOn code state to
    → Comes to input → (IsNoLater mid input → IsNoLater new input) → IsNoLater mid input ⊎ Reaches code to input theirs
    → IsNoLater new input ⊎ Reaches code state input theirs
reaches_or code state to theirs mid new input on comes kept (inl h) = inl (kept h)
reaches_or code state to theirs mid new input on comes kept (inr h) = inr (reaches_more code state to input theirs on comes h)

-- the data of the state continue at one position
pub lesser_one : (code : List Insn) (state to : State) (theirs : ℕ) (old new : Option Difference) → LeadsOn code state to
    → ((input : CallData) → Comes state input → Comes to input) → IsLesser code to theirs old new → IsLesser code state theirs old new
lesser_one code state to theirs old new on all h = record {
  comes_of = comes_more code state to theirs old old new on (inl refl) h.comes_of;
  kept = h.kept;
  no_later = λ input comes.
      reaches_or code state to theirs new new input on (all input comes) (λ same. same) (h.no_later input (all input comes));
}

-- the data of the state continue at two positions
pub lesser_two : (code : List Insn) (state first second : State) (theirs : ℕ) (old mid new : Option Difference) → LeadsOn code state first
    → LeadsOn code state second → ((input : CallData) → Comes state input → Comes first input ⊎ Comes second input)
    → IsLesser code second theirs old mid → IsLesser code first theirs mid new → IsLesser code state theirs old new
lesser_two code state first second theirs old mid new on other_on either one other = record {
  comes_of = comes_more code state first theirs old mid new on
      (comes_more code state second theirs old old mid other_on (inl refl) one.comes_of) other.comes_of;
  kept = kept_on old mid new one.kept other.kept;
  no_later = λ input comes. by input (either input comes);
}
  where
    by : (input : CallData) → Comes first input ⊎ Comes second input → IsNoLater new input ⊎ Reaches code state input theirs
    by input (inl there) =
        reaches_or code state first theirs new new input on there (λ same. same) (other.no_later input there)
    by input (inr there) =
        reaches_or code state second theirs mid new input other_on there (later mid new input other.kept) (one.no_later input there)

-- a conclusion for a test that fails
pub on_not : (test : Bool) (P Q : Type 0) → (P → Q) → OnFalse test P → OnTrue (not test) Q
on_not true P Q f h = tt
on_not false P Q f h = f h

-- what is so where a test holds
pub on_true : (test : Bool) (P Q : Type 0) → (P → Q) → OnTrue test P → OnTrue test Q
on_true true P Q f h = f h
on_true false P Q f h = tt
