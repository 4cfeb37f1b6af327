-- The least of differences, one end at a time.
use Rattle.std.proofs.Common.{◌≡◌, ℕ, zero, suc, List, ◌∷◌, Some, None, ◌⊎◌, inl}
use Rattle.std.proofs.Common.{inr, refl, sym, ap, ◌∙◌, subst, arith}
use Rattle.std.specs.Prelude.{Option, Any, IfSome, bit_and, slice_index}
use Rattle.std.specs.Int.Bits.{and_zero_r}
use Rattle.seccomp_compile.specs.bpf_code.declared.machine.Insn.{Insn}
use Rattle.seccomp_compile.specs.bpf_code.declared.machine.CallData.{CallData}
use Rattle.seccomp_compile.specs.bpf_code.Effects.{words_of}
use Rattle.seccomp_compile.specs.bpf_code.Meaning.{Answers, start_regs}
use Rattle.seccomp_compile.proofs.OfBpfCode.Endings.{run_by_answers, only_answer_by_run}
use Rattle.filter_check.specs.filter_paths.Traces.{Takes}
use Rattle.filter_check.specs.filter_paths.Regions.{IsWithin, held_word}
use Rattle.filter_check.specs.declared.filter_paths.states.State.{State}
use Rattle.filter_check.specs.declared.filter_paths.states.End.{End}
use Rattle.filter_check.specs.declared.differences.Difference.{Difference}
use Rattle.filter_check.specs.Order.{IsNotAfter}
use Rattle.filter_check.specs.Differing.{DiffersFrom, IsDifference, IsNoLater, IsLeastFrom, difference_at, IsLesserAt, IsLesser, ComesOf, Reaches}
use Rattle.filter_check.proofs.Sorting.{not_after_self, not_after_then}
use Rattle.filter_check.proofs.Traces.{takes_ends}
use Rattle.filter_check.proofs.Told.{IsStart}

-- a program has one answer
pub one_answer : (code : List Insn) (input : CallData) (one other : ℕ) → Answers code input one → Answers code input other → one ≡ other
one_answer code input one other h g = let run = run_by_answers code input other g in only_answer_by_run code input other run.0 run.1 one h

pub no_later_self : (old : Option Difference) → IfSome old (λ one. IsNoLater old one.at)
no_later_self None = tt
no_later_self (Some one) = not_after_self (words_of one.at)

-- a difference that is no later than the old one is no later than these data either
pub later : (old new : Option Difference) (input : CallData) → IfSome old (λ one. IsNoLater new one.at) → IsNoLater old input
    → IsNoLater new input
later None new input kept h = absurd h
later (Some one) None input kept h = absurd kept
later (Some one) (Some other) input kept h = not_after_then (words_of other.at) (words_of one.at) (words_of input) kept h

pub kept_on : (old mid new : Option Difference) → IfSome old (λ one. IsNoLater mid one.at) → IfSome mid (λ one. IsNoLater new one.at)
    → IfSome old (λ one. IsNoLater new one.at)
kept_on None mid new one other = tt
kept_on (Some old) mid new one other = later mid new old.at other one

-- one end: it has their answer, or its difference is the new one, or the old one stays
pub lesser_same : (end : End) (theirs : ℕ) (old : Option Difference) → end.answer ≡ theirs → IsLesserAt end theirs old old
lesser_same end theirs old e = record { comes_of = inl refl; kept = no_later_self old; no_later = λ ne. absurd (ne (sym e)) }

pub lesser_first : (end : End) (theirs : ℕ) → (end.answer ≡ theirs → ⊥) → IsLesserAt end theirs None (Some (difference_at theirs end))
lesser_first end theirs ne =
    record { comes_of = inr ((λ e. ne (sym e)), refl); kept = tt; no_later = λ other. not_after_self (words_of end.least) }

pub lesser_new : (end : End) (theirs : ℕ) (old : Difference) → (end.answer ≡ theirs → ⊥)
    → IsNotAfter (words_of end.least) (words_of old.at) → IsLesserAt end theirs (Some old) (Some (difference_at theirs end))
lesser_new end theirs old ne before =
    record { comes_of = inr ((λ e. ne (sym e)), refl); kept = before; no_later = λ other. not_after_self (words_of end.least) }

pub lesser_old : (end : End) (theirs : ℕ) (old : Difference) → IsNotAfter (words_of old.at) (words_of end.least)
    → IsLesserAt end theirs (Some old) (Some old)
lesser_old end theirs old behind = record { comes_of = inl refl; kept = not_after_self (words_of old.at); no_later = λ other. behind }

-- one end in front of others
pub any_behind : {X : Type 0} (P : X → Type 0) (x : X) (xs : List X) → Any P xs → Any P (x ∷ xs)
any_behind P x xs a = (suc a.0, a.1, omega (arith, a.2), a.3, a.4)

pub any_first : {X : Type 0} (P : X → Type 0) (x : X) (xs : List X) → P x → Any P (x ∷ xs)
any_first P x xs h = (0, x, omega arith, refl, h)

pub any_split : {X : Type 0} (P : X → Type 0) (x : X) (xs : List X) → Any P (x ∷ xs) → P x ⊎ Any P xs
any_split P x xs (zero, d, lt, e, h) = inl (subst P (sym e) h)
any_split P x xs (suc k, d, lt, e, h) = inr (k, d, omega (arith, lt), e, h)

-- a difference of an end is among the differences of one more end
weaker : (end : End) (ends : List End) (code : List Insn) (found : Option Difference) → IsDifference ends code found
    → IsDifference (end ∷ ends) code found
weaker end ends code None h = tt
weaker end ends code (Some found) h =
    record { fits = h.fits; of_end = any_behind _ end ends h.of_end; answers = h.answers; differ = h.differ }

-- a path from the first instruction ends with the program's answer
answers_from : (code : List Insn) (state : State) (input : CallData) (answer : ℕ) → IsStart state → Reaches code state input answer
    → Answers code input answer
answers_from code state input answer start reaches =
    let held : 0 ≡ held_word state.held input = sym (ap (λ m. bit_and (slice_index (words_of input) state.held.word) m) start.nothing
    ∙ and_zero_r (slice_index (words_of input) state.held.word)) in
    let path = reaches start_regs held in
    takes_ends code input 0 start_regs path.0 answer (subst (λ at. Takes code input at start_regs path.0 answer) start.first path.1)

-- the state of the data of an end at the first instruction
pub record IsStartOf (state : State) (end : End) : Type 0 where
  pub start : IsStart state
  pub there : (input : CallData) → IsWithin state.region input → IsWithin end.region input
  pub back : (input : CallData) → IsWithin end.region input → IsWithin state.region input

is_difference : (ends : List End) (end : End) (code : List Insn) (state : State) (old new : Option Difference) → IsDifference ends code old
    → IsStartOf state end → ComesOf code state end.answer old new → IsDifference (end ∷ ends) code new
is_difference ends end code state old new h at (inl e) = subst (λ o. IsDifference (end ∷ ends) code o) (sym e)
    (weaker end ends code old h)
is_difference ends end code state old new h at (inr (found, e, theirs, differs)) =
    subst (λ o. IsDifference (end ∷ ends) code o) (sym e) record {
      fits = differs.comes.0;
      of_end = any_first _ end ends (at.there found.at differs.comes.1, sym theirs);
      answers = answers_from code state found.at found.ours at.start differs.reaches;
      differ = differs.differ;
    }

no_later_more : (ends : List End) (end : End) (code : List Insn) (state : State) (old new : Option Difference)
    → IsLeastFrom ends code old → IsStartOf state end → IsLesser code state end.answer old new → (input : CallData) (theirs ours : ℕ)
    → DiffersFrom (end ∷ ends) code input theirs ours → IsNoLater new input
no_later_more ends end code state old new least at lesser input theirs ours h =
    elim (any_split (λ end. IsWithin end.region input × (end.answer ≡ theirs)) end ends h.of_end) [
      | inr before ↦ later old new input lesser.kept
          (least.no_later input theirs ours record { fits = h.fits; of_end = before; answers = h.answers; differ = h.differ })
      | inl here ↦ by here.1 (lesser.no_later input (h.fits, at.back input here.0))
    ]
  where
    by : end.answer ≡ theirs → IsNoLater new input ⊎ Reaches code state input end.answer → IsNoLater new input
    by e (inl no_later) = no_later
    by e (inr reaches) =
        absurd (h.differ (sym e ∙ one_answer code input end.answer ours (answers_from code state input end.answer at.start reaches) h.answers))

pub least_more : (ends : List End) (end : End) (code : List Insn) (state : State) (old new : Option Difference) → IsLeastFrom ends code old
    → IsStartOf state end → IsLesser code state end.answer old new → IsLeastFrom (end ∷ ends) code new
least_more ends end code state old new least at lesser = record {
  is_one = is_difference ends end code state old new least.is_one at lesser.comes_of;
  no_later = no_later_more ends end code state old new least at lesser;
}
