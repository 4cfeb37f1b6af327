-- The ends that are not left out have the least difference of all ends.
use Rattle.std.proofs.Common.{◌≡◌, ◌≢◌, ℕ, zero, suc, ◌+◌, ◌<◌, ◌≤◌, Bool, true, false, cond, List, [], ◌∷◌, ◌++◌, drop, length, get_or, Some, None}
use Rattle.std.proofs.Common.{inl, inr, refl, sym, ap, ◌∙◌, subst, arith}
use Rattle.std.specs.Prelude.{Option, Any, slice_get}
use Rattle.std.specs.Bool.{OnTrue}
use Rattle.std.proofs.lemmas.Bool.{cases_lt}
use Rattle.std.proofs.Math.Seq.{drop-cons}
use Rattle.std.proofs.lemmas.Option.{slice_get-get_or, slice_get_within, get_or_from_slice_get}
use Rattle.seccomp_compile.specs.bpf_code.declared.machine.Insn.{Insn}
use Rattle.seccomp_compile.specs.bpf_code.declared.machine.CallData.{CallData}
use Rattle.seccomp_compile.specs.bpf_code.Reading.{IsProgram}
use Rattle.seccomp_compile.specs.Form.{AreOfForm}
use Rattle.filter_check.specs.filter_paths.Regions.{IsWithin}
use Rattle.filter_check.specs.declared.filter_paths.states.State.{State}
use Rattle.filter_check.specs.declared.filter_paths.states.End.{End}
use Rattle.filter_check.specs.declared.differences.Difference.{Difference}
use Rattle.filter_check.specs.Differing.{DiffersFrom, IsDifference, IsNoLater, IsLeastFrom, IsLesser}
use Rattle.filter_check.specs.Representing.{MarksLoads, Represents, IsRepresented, LeavesOut}
use Rattle.filter_check.proofs.Least.{any_behind, any_first, any_split, least_more, IsStartOf}
use Rattle.filter_check.proofs.Passing.{no_later_from}

same_end : (one other : End) → Some one ≡ Some other → one ≡ other
same_end one other e = cc

-- an end that represents another one is chosen for itself, so it is not marked
pub leaves_out : (code : List Insn) (loaded : List Bool) (ends : List End) (chosen : List ℕ) (marks : List Bool) → IsProgram code
    → AreOfForm code → MarksLoads code loaded
    → ((at : ℕ) → at < length ends → get_or marks at false ≡ true → IsRepresented loaded ends chosen at) → LeavesOut code ends marks
leaves_out code loaded ends chosen marks program form loads each at end found e =
    let represented = each at (slice_get_within ends at end found) e in
    let by = get_or chosen at 0 in (
      by,
      represented.one,
      represented.one_is,
      not_marked represented (get_or marks by false) refl,
      subst (Represents code represented.one) (same_end represented.other end (sym represented.other_is ∙ found)) (represented.represents code program form loads),
    )
  where
    not_marked : (represented : IsRepresented loaded ends chosen at) (t : Bool) → get_or marks (get_or chosen at 0) false ≡ t
        → get_or marks (get_or chosen at 0) false ≡ false
    not_marked represented true m =
        let own = each (get_or chosen at 0) (slice_get_within ends (get_or chosen at 0) represented.one represented.one_is) m in
        absurd (own.another represented.itself)
    not_marked represented false m = m

-- the ends that are not marked
abbrev pub kept : List Bool → List End → List End
kept [] ends = ends
kept (mark ∷ marks) [] = []
kept (mark ∷ marks) (end ∷ ends) = cond mark (kept marks ends) (end ∷ kept marks ends)

kept_none : (marks : List Bool) → kept marks [] ≡ []
kept_none [] = refl
kept_none (mark ∷ marks) = refl

any_at : (P : End → Type 0) (ends : List End) (at : ℕ) (end : End) → slice_get ends at ≡ Some end → P end → Any P ends
any_at P ends at end found h = (at, end, slice_get_within ends at end found, get_or_from_slice_get ends at end end found, h)

any_kept : (P : End → Type 0) (marks : List Bool) (ends : List End) (at : ℕ) (end : End) → slice_get ends at ≡ Some end
    → get_or marks at false ≡ false → P end → Any P (kept marks ends)
any_kept P [] ends at end found e h = any_at P ends at end found h
any_kept P (mark ∷ marks) [] at end found e h = cc
any_kept P (true ∷ marks) (first ∷ ends) zero end found e h = cc
any_kept P (false ∷ marks) (first ∷ ends) zero end found e h =
    any_first P first (kept marks ends) (subst P (sym (same_end first end found)) h)
any_kept P (true ∷ marks) (first ∷ ends) (suc at) end found e h = any_kept P marks ends at end found e h
any_kept P (false ∷ marks) (first ∷ ends) (suc at) end found e h =
    any_behind P first (kept marks ends) (any_kept P marks ends at end found e h)

any_of_kept : (P : End → Type 0) (marks : List Bool) (ends : List End) → Any P (kept marks ends) → Any P ends
any_of_kept P [] ends a = a
any_of_kept P (mark ∷ marks) [] a = a
any_of_kept P (true ∷ marks) (first ∷ ends) a = any_behind P first ends (any_of_kept P marks ends a)
any_of_kept P (false ∷ marks) (first ∷ ends) a = elim (any_split P first (kept marks ends) a) [
  | inl h ↦ any_first P first ends h
  | inr more ↦ any_behind P first ends (any_of_kept P marks ends more)
]

-- a difference of the ends that are kept is one of all ends
difference_of_kept : (marks : List Bool) (ends : List End) (code : List Insn) (found : Option Difference)
    → IsDifference (kept marks ends) code found → IsDifference ends code found
difference_of_kept marks ends code None h = tt
difference_of_kept marks ends code (Some found) h =
    record { fits = h.fits; of_end = any_of_kept _ marks ends h.of_end; answers = h.answers; differ = h.differ }

-- and no difference of an end that is left out comes before it
no_later_of_kept : (marks : List Bool) (ends : List End) (code : List Insn) (found : Option Difference) → LeavesOut code ends marks
    → IsLeastFrom (kept marks ends) code found → (input : CallData) (theirs ours : ℕ) → DiffersFrom ends code input theirs ours
    → IsNoLater found input
no_later_of_kept marks ends code found leaves least input theirs ours h =
    let own = h.of_end in
    let at = own.0 in
    let end = own.1 in
    let there = slice_get-get_or ends at end own.2 ∙ ap Some own.3 in
    by at end there own.4.0 own.4.1 (get_or marks at false) refl
  where
    by : (at : ℕ) (end : End) → slice_get ends at ≡ Some end → IsWithin end.region input → end.answer ≡ theirs → (t : Bool)
        → get_or marks at false ≡ t → IsNoLater found input
    by at end there within same false e =
        least.no_later input theirs ours record {
          fits = h.fits;
          of_end = any_kept (λ end. IsWithin end.region input × (end.answer ≡ theirs)) marks ends at end there e (within, same);
          answers = h.answers;
          differ = h.differ;
        }
    by at end there within same true e =
        let represents = leaves at end there e in
        let one = represents.1 in
        let before = represents.4 input ours record {
          fits = h.fits;
          within = within;
          answers = h.answers;
          differ = subst (λ answer. answer ≢ ours) (sym same) h.differ;
        } in
        no_later_from found before.0 input before.2
        (least.no_later before.0 one.answer ours record {
          fits = before.1.fits;
          of_end = any_kept (λ end. IsWithin end.region before.0 × (end.answer ≡ one.answer)) marks ends represents.0 one represents.2 represents.3
              (before.1.within, refl);
          answers = before.1.answers;
          differ = before.1.differ;
        })

pub least_of_kept : (marks : List Bool) (ends : List End) (code : List Insn) (found : Option Difference) → LeavesOut code ends marks
    → IsLeastFrom (kept marks ends) code found → IsLeastFrom ends code found
least_of_kept marks ends code found leaves least = record {
  is_one = difference_of_kept marks ends code found least.is_one;
  no_later = no_later_of_kept marks ends code found leaves least;
}

-- from a place on
abbrev pub kept_from : ℕ → List Bool → List End → List End
kept_from at marks ends = kept (drop at marks) (drop at ends)

kept_is : (marks : List Bool) (ends : List End) (at : ℕ) (end : End) → at < length marks → at < length ends → get_or ends at end ≡ end
    → kept_from at marks ends ≡ cond (get_or marks at false) (kept_from (suc at) marks ends) (end ∷ kept_from (suc at) marks ends)
kept_is marks ends at end lt less is =
    ap (λ some. kept some (drop at ends)) (drop-cons marks at false lt)
    ∙ ap (kept (get_or marks at false ∷ drop (suc at) marks)) (drop-cons ends at end less ∙ ap (λ x. x ∷ drop (suc at) ends) is)

end_at : (ends : List End) (at : ℕ) → at < length ends → (end : End) × (get_or ends at end ≡ end)
end_at [] at lt = absurd (omega (arith, lt))
end_at (end ∷ ends) zero lt = (end, refl)
end_at (end ∷ ends) (suc at) lt = end_at ends at (omega (arith, lt))

-- an end that is left out, or one more
pub least_without : (marks : List Bool) (ends : List End) (at : ℕ) (code : List Insn) (found : Option Difference)
    → at < length marks → at < length ends → get_or marks at false ≡ true → IsLeastFrom (kept_from (suc at) marks ends) code found
    → IsLeastFrom (kept_from at marks ends) code found
least_without marks ends at code found lt less marked least =
    let rest = kept_from (suc at) marks ends in
    let end = end_at ends at less in
    subst (λ some. IsLeastFrom some code found)
    (sym (kept_is marks ends at end.0 lt less end.1 ∙ ap (λ t. cond t rest (end.0 ∷ rest)) marked)) least

pub least_with : (marks : List Bool) (ends : List End) (at : ℕ) (end : End) (code : List Insn) (state : State) (old new : Option Difference)
    → at < length marks → at < length ends → get_or ends at end ≡ end → get_or marks at false ≡ false
    → IsLeastFrom (kept_from (suc at) marks ends) code old → IsStartOf state end → IsLesser code state end.answer old new
    → IsLeastFrom (kept_from at marks ends) code new
least_with marks ends at end code state old new lt less is marked least start lesser =
    let rest = kept_from (suc at) marks ends in
    subst (λ some. IsLeastFrom some code new) (sym (kept_is marks ends at end lt less is ∙ ap (λ t. cond t rest (end ∷ rest)) marked))
    (least_more rest end code state old new least start lesser)

pub least_none : (marks : List Bool) (ends : List End) (at : ℕ) (code : List Insn) → length ends ≤ at
    → IsLeastFrom (kept_from at marks ends) code None
least_none marks ends at code le =
    subst (λ some. IsLeastFrom some code None) (sym (ap (kept (drop at marks)) (none_left ends at le) ∙ kept_none (drop at marks)))
    record { is_one = tt; no_later = λ input theirs ours h. absurd (omega (arith, h.of_end.2)) }
  where
    none_left : (ends : List End) (at : ℕ) → length ends ≤ at → drop at ends ≡ []
    none_left [] zero le = refl
    none_left [] (suc at) le = refl
    none_left (end ∷ ends) zero le = absurd (omega (arith, le))
    none_left (end ∷ ends) (suc at) le = none_left ends at (omega (arith, le))

-- the mark at a place
any_default : (marks : List Bool) (at : ℕ) (one other : Bool) → at < length marks → get_or marks at one ≡ get_or marks at other
any_default [] at one other lt = absurd (omega (arith, lt))
any_default (mark ∷ marks) zero one other lt = refl
any_default (mark ∷ marks) (suc at) one other lt = any_default marks at one other (omega (arith, lt))

pub mark_at : (marks : List Bool) (at : ℕ) (mark t : Bool) → at < length marks → mark ≡ get_or marks at mark → mark ≡ t
    → get_or marks at false ≡ t
mark_at marks at mark t lt is e = any_default marks at false mark lt ∙ sym is ∙ e

get_last : (marks : List Bool) (mark : Bool) → get_or (marks ++ mark ∷ []) (length marks) false ≡ mark
get_last [] mark = refl
get_last (one ∷ marks) mark = get_last marks mark

get_front : (marks : List Bool) (mark : Bool) (at : ℕ) → at < length marks → get_or (marks ++ mark ∷ []) at false ≡ get_or marks at false
get_front [] mark at lt = absurd (omega (arith, lt))
get_front (one ∷ marks) mark zero lt = refl
get_front (one ∷ marks) mark (suc at) lt = get_front marks mark at (omega (arith, lt))

when_true : (test : Bool) (P : Type 0) → OnTrue test P → test ≡ true → P
when_true true P h e = h
when_true false P h e = cc

-- one more mark
pub marks_more : (P : ℕ → Type 0) (old new : List Bool) (mark : Bool) (count : ℕ) → length old ≡ count → new ≡ old ++ mark ∷ []
    → OnTrue mark (P count) → ((k : ℕ) → k < count → get_or old k false ≡ true → P k) → (k : ℕ) → k < count + 1
    → get_or new k false ≡ true → P k
marks_more P old new mark count l is here before k lt e = elim (cases_lt k count) [
  | inl less ↦ before k less (sym (get_front old mark k (omega (arith, l, less))) ∙ ap (λ all. get_or all k false) (sym is) ∙ e)
  | inr le ↦
      let same : k ≡ length old = omega (arith, lt, le, l) in
      let last : get_or (old ++ mark ∷ []) (length old) false ≡ true =
      subst (λ n. get_or (old ++ mark ∷ []) n false ≡ true) same (subst (λ all. get_or all k false ≡ true) is e) in
      subst P (sym (same ∙ l)) (when_true mark (P count) here (sym (get_last old mark) ∙ last))
]
