-- The ends after a step are the ends at it.
use Rattle.std.proofs.Common.{◌≡◌, ℕ, Bool, true, false, append_assoc, length-append, zero, suc, ◌+◌, ◌-◌, ◌<◌, ◌≤◌, List, [], ◌∷◌, ◌++◌}
use Rattle.std.proofs.Common.{map, length, Some, Ok, Err, ◌⊎◌, inl, inr, refl, sym, ap, ◌∙◌, subst, arith}
use Rattle.std.specs.Prelude.{Result, IfOk, slice_get, slice_index_or, ◌≢◌, Any}
use Rattle.std.specs.List.{AllZip, AllByRecursion}
use Rattle.filter_check.proofs.Traces.{first_position, takes_first}
use Rattle.seccomp_compile.specs.bpf_code.declared.machine.Insn.{Insn}
use Rattle.seccomp_compile.specs.bpf_code.declared.machine.CallData.{CallData}
use Rattle.seccomp_compile.specs.bpf_code.declared.machine.Regs.{Regs}
use Rattle.filter_check.specs.filter_paths.Traces as traces
use Rattle.filter_check.specs.filter_paths.Traces.{Takes, EachOnce}
use Rattle.filter_check.specs.filter_paths.Regions.{IsWithin, held_word}
use Rattle.filter_check.specs.filter_paths.Covered.{Comes, EndsAt, HasLeast, LeadsOn, LeadsTo, AreSomeEnds, AreEnds, AddsEnds}
use Rattle.filter_check.specs.declared.filter_paths.states.State.{State}
use Rattle.filter_check.specs.declared.filter_paths.states.End.{End}

-- one more step at the front of a path
lead_more : (code : List Insn) (state to : State) (end : End) (path : List ℕ) → LeadsOn code state to → LeadsTo code to end path
    → LeadsTo code state end (state.at ∷ path)
lead_more code state to end path on lead = λ input fits within.
    let there = lead input fits within in (
      on.narrower input there.0,
      λ regs held.
          let step = on.leads input regs there.0 held in
          let far : to.at ≡ state.at + 1 + (to.at - (state.at + 1)) = omega (arith, on.later) in
          traces.goes_on state.at (to.at - (state.at + 1)) regs step.1 step.0 path end.answer step.2 step.3
          (subst (λ at. Takes code input at step.1 path end.answer) far (there.1 step.1 step.4)),
    )

lead_all : (code : List Insn) (state to : State) (ends : List End) (paths : List (List ℕ)) → LeadsOn code state to
    → AllZip (LeadsTo code to) ends paths → AllZip (LeadsTo code state) ends (map (λ path. state.at ∷ path) paths)
lead_all code state to [] [] on lead = tt
lead_all code state to [] (path ∷ paths) on lead = absurd lead
lead_all code state to (end ∷ ends) [] on lead = absurd lead
lead_all code state to (end ∷ ends) (path ∷ paths) on lead =
    (lead_more code state to end path on lead.0, lead_all code state to ends paths on lead.1)

some_path : (x y : List ℕ) → Some x ≡ Some y → x ≡ y
some_path x y e = cc

-- distinct paths stay distinct after one position
get_behind : (at : ℕ) (paths : List (List ℕ)) (place : ℕ) (path : List ℕ) → slice_get (map (λ path. at ∷ path) paths) place ≡ Some path
    → (rest : List ℕ) × (slice_get paths place ≡ Some rest) × (path ≡ at ∷ rest)
get_behind at [] place path e = cc
get_behind at (one ∷ paths) zero path e = (one, refl, some_path _ _ (sym e))
get_behind at (one ∷ paths) (suc place) path e = get_behind at paths place path e

tail_is : (at : ℕ) (xs ys : List ℕ) → at ∷ xs ≡ at ∷ ys → xs ≡ ys
tail_is at xs ys e = cc

once_behind : (at : ℕ) (paths : List (List ℕ)) → EachOnce paths → EachOnce (map (λ path. at ∷ path) paths)
once_behind at paths once one other path e f =
    let a = get_behind at paths one path e in
    let b = get_behind at paths other path f in
    once one other a.0 a.1 (b.1 ∙ ap Some (tail_is at b.0 a.0 (sym b.2 ∙ a.2)))

pub some_more : (code : List Insn) (state to : State) (ends : List End) → LeadsOn code state to → AreSomeEnds code to ends
    → AreSomeEnds code state ends
some_more code state to ends on some = record {
  paths = map (λ path. state.at ∷ path) some.paths;
  lead = lead_all code state to ends some.paths on some.lead;
  some = some.some;
  once = once_behind state.at some.paths some.once;
}

pub all_more : (code : List Insn) (state to : State) (ends : List End) → LeadsOn code state to
    → ((input : CallData) → Comes state input → Comes to input) → AreEnds code to ends → AreEnds code state ends
all_more code state to ends on on_data all = record {
  some = some_more code state to ends on all.some;
  all_data = λ input comes. all.all_data input (on_data input comes);
}

-- the paths of the ends at a state begin at its position
begins : (code : List Insn) (state : State) (end : End) (path : List ℕ) (regs : Regs) → LeadsTo code state end path → HasLeast end
    → first_position (state.at + 1) path ≡ state.at
begins code state end path regs lead one =
    let held : Regs = record regs { a = held_word state.held end.least } in
    takes_first code end.least state.at held path end.answer (state.at + 1) ((lead end.least one.0 one.1).1 held refl)

all_begin : (code : List Insn) (state : State) (regs : Regs) (ends : List End) (paths : List (List ℕ))
    → AllZip (LeadsTo code state) ends paths → AllByRecursion HasLeast ends → (place : ℕ) (path : List ℕ)
    → slice_get paths place ≡ Some path → first_position (state.at + 1) path ≡ state.at
all_begin code state regs [] [] lead some place path e = cc
all_begin code state regs [] (one ∷ paths) lead some place path e = absurd lead
all_begin code state regs (end ∷ ends) [] lead some place path e = absurd lead
all_begin code state regs (end ∷ ends) (one ∷ paths) lead some zero path e =
    subst (λ p. first_position (state.at + 1) p ≡ state.at) (some_path one path e) (begins code state end one regs lead.0 some.0)
all_begin code state regs (end ∷ ends) (one ∷ paths) lead some (suc place) path e =
    all_begin code state regs ends paths lead.1 some.1 place path e

-- an element of two joined lists is in the first or in the second
get_append : {X : Type 0} (xs ys : List X) (place : ℕ) (x : X) → slice_get (xs ++ ys) place ≡ Some x
    → (slice_get xs place ≡ Some x) ⊎ ((at : ℕ) × (place ≡ length xs + at) × (slice_get ys at ≡ Some x))
get_append [] ys place x e = inr (place, omega arith, e)
get_append (one ∷ xs) ys zero x e = inl e
get_append (one ∷ xs) ys (suc place) x e = by (get_append xs ys place x e)
  where
    by : (slice_get xs place ≡ Some x) ⊎ ((at : ℕ) × (place ≡ length xs + at) × (slice_get ys at ≡ Some x))
        → (slice_get (one ∷ xs) (suc place) ≡ Some x) ⊎ ((at : ℕ) × (suc place ≡ length (one ∷ xs) + at) × (slice_get ys at ≡ Some x))
    by (inl h) = inl h
    by (inr h) = inr (h.0, omega (arith, h.1), h.2)

once_append : (paths others : List (List ℕ)) → EachOnce paths → EachOnce others
    → ((one other : ℕ) (path : List ℕ) → slice_get paths one ≡ Some path → slice_get others other ≡ Some path → ⊥)
    → EachOnce (paths ++ others)
once_append paths others a b apart one other path e f = by (get_append paths others one path e) (get_append paths others other path f)
  where
    by : (slice_get paths one ≡ Some path) ⊎ ((at : ℕ) × (one ≡ length paths + at) × (slice_get others at ≡ Some path))
        → (slice_get paths other ≡ Some path) ⊎ ((at : ℕ) × (other ≡ length paths + at) × (slice_get others at ≡ Some path)) → one ≡ other
    by (inl g) (inl h) = a one other path g h
    by (inl g) (inr h) = absurd (apart one h.0 path g h.2)
    by (inr g) (inl h) = absurd (apart other g.0 path h g.2)
    by (inr g) (inr h) = let e = b g.0 h.0 path g.2 h.2 in omega (arith, e, g.1, h.1)

lead_append : (code : List Insn) (state : State) (ends others : List End) (paths more : List (List ℕ))
    → AllZip (LeadsTo code state) ends paths → AllZip (LeadsTo code state) others more
    → AllZip (LeadsTo code state) (ends ++ others) (paths ++ more)
lead_append code state [] others [] more a b = b
lead_append code state [] others (path ∷ paths) more a b = absurd a
lead_append code state (end ∷ ends) others [] more a b = absurd a
lead_append code state (end ∷ ends) others (path ∷ paths) more a b = (a.0, lead_append code state ends others paths more a.1 b)

one_append : (ends others : List End) → AllByRecursion HasLeast ends → AllByRecursion HasLeast others
    → AllByRecursion HasLeast (ends ++ others)
one_append [] others a b = b
one_append (end ∷ ends) others a b = (a.0, one_append ends others a.1 b)

head_is : (x y : ℕ) (xs ys : List ℕ) → x ∷ xs ≡ y ∷ ys → x ≡ y
head_is x y xs ys e = cc

apart : (one other : ℕ) (path more : List ℕ) → one ≢ other → path ≡ more → first_position (one + 1) path ≡ one
    → first_position (other + 1) more ≡ other → ⊥
apart one other [] more ne e a b = omega (arith, a)
apart one other (at ∷ path) [] ne e a b = omega (arith, b)
apart one other (at ∷ path) (there ∷ more) ne e a b = ne (sym a ∙ head_is at there path more e ∙ b)

pub two_more : (code : List Insn) (state first second : State) (regs : Regs) (ends others : List End) → LeadsOn code state first
    → LeadsOn code state second → first.at ≢ second.at → AreSomeEnds code first ends → AreSomeEnds code second others
    → AreSomeEnds code state (ends ++ others)
unfolding some_more
two_more code state first second regs ends others on other_on ne a b =
    let one = some_more code state first ends on a in
    let two = some_more code state second others other_on b in
    record {
      paths = one.paths ++ two.paths;
      lead = lead_append code state ends others one.paths two.paths one.lead two.lead;
      some = one_append ends others a.some b.some;
      once = once_append one.paths two.paths one.once two.once (λ place at path e f.
          let g = get_behind state.at a.paths place path e in
          let h = get_behind state.at b.paths at path f in
          let same = tail_is state.at g.0 h.0 (sym g.2 ∙ h.2) in
          let begin = all_begin code first regs ends a.paths a.lead a.some place g.0 g.1 in
          let other_begin = all_begin code second regs others b.paths b.lead b.some at h.0 h.1 in
          apart first.at second.at g.0 h.0 ne same begin other_begin);
    }

pub end_here : (code : List Insn) (state : State) (end : End) → end.region ≡ state.region → HasLeast end → EndsAt code state end.answer
    → AreEnds code state (end ∷ [])
end_here code state end same one ends_at = record {
  some = record {
    paths = (state.at ∷ []) ∷ [];
    lead = (
      (λ input fits within.
          let comes : Comes state input = (fits, subst (λ region. IsWithin region input) same within) in
          (comes, λ regs held. let step = ends_at input regs comes held in traces.ends state.at regs step.1 step.0 end.answer step.2 step.3)),
      tt,
    );
    some = (one, tt);
    once = λ place other path e f. alone place other path e f;
  };
  all_data = λ input comes. here input comes;
}
  where
    alone : (place other : ℕ) (path : List ℕ) → slice_get ((state.at ∷ []) ∷ []) place ≡ Some path
        → slice_get ((state.at ∷ []) ∷ []) other ≡ Some path → place ≡ other
    alone zero zero path e f = refl
    alone zero (suc other) path e f = cc
    alone (suc place) other path e f = cc

    here : (input : CallData) → Comes state input → Any (λ end. IsWithin end.region input) (end ∷ [])
    here input comes = (0, end, omega arith, refl, subst (λ region. IsWithin region input) (sym same) comes.1)

index_left : {X : Type 0} (xs ys : List X) (k : ℕ) (d : X) → k < length xs → slice_index_or (xs ++ ys) k d ≡ slice_index_or xs k d
index_left [] ys k d lt = absurd (omega (arith, lt))
index_left (x ∷ xs) ys zero d lt = refl
index_left (x ∷ xs) ys (suc k) d lt = index_left xs ys k d (omega (arith, lt))

index_right : {X : Type 0} (xs ys : List X) (k : ℕ) (d : X) → slice_index_or (xs ++ ys) (length xs + k) d ≡ slice_index_or ys k d
index_right [] ys k d = let e : 0 + k ≡ k = omega arith in rw e refl
index_right (x ∷ xs) ys k d = let e : suc (length xs) + k ≡ suc (length xs + k) = omega arith in rw e (index_right xs ys k d)

any_left : {X : Type 0} (P : X → Type 0) (xs ys : List X) → Any P xs → Any P (xs ++ ys)
any_left P xs ys a = let l = length-append xs ys in (a.0, a.1, omega (arith, l, a.2), index_left xs ys a.0 a.1 a.2 ∙ a.3, a.4)

any_right : {X : Type 0} (P : X → Type 0) (xs ys : List X) → Any P ys → Any P (xs ++ ys)
any_right P xs ys a = let l = length-append xs ys in (length xs + a.0, a.1, omega (arith, l, a.2), index_right xs ys a.0 a.1 ∙ a.3, a.4)

pub all_two : (code : List Insn) (state first second : State) (regs : Regs) (ends others : List End) → LeadsOn code state first
    → LeadsOn code state second → first.at ≢ second.at → ((input : CallData) → Comes state input → Comes first input ⊎ Comes second input)
    → AreEnds code first ends → AreEnds code second others → AreEnds code state (ends ++ others)
all_two code state first second regs ends others on other_on ne either a b = record {
  some = two_more code state first second regs ends others on other_on ne a.some b.some;
  all_data = λ input comes. by input (either input comes);
}
  where
    by : (input : CallData) → Comes first input ⊎ Comes second input → Any (λ end. IsWithin end.region input) (ends ++ others)
    by input (inl h) = any_left (λ end. IsWithin end.region input) ends others (a.all_data input h)
    by input (inr h) = any_right (λ end. IsWithin end.region input) ends others (b.all_data input h)

-- the ends that are added
pub adds_more : (code : List Insn) (state to : State) (most : ℕ) (old new : List End) (all : Bool) → LeadsOn code state to
    → ((input : CallData) → Comes state input → Comes to input) → AddsEnds code to most old new all → AddsEnds code state most old new all
adds_more code state to most old new true on on_data (more, e, ends) = (more, e, all_more code state to more on on_data ends)
adds_more code state to most old new false on on_data (more, lt, some) = (more, lt, some_more code state to more on some)

pub adds_first : (code : List Insn) (state first : State) (most : ℕ) (old new : List End) → LeadsOn code state first
    → AddsEnds code first most old new false → AddsEnds code state most old new false
adds_first code state first most old new on (more, lt, some) = (more, lt, some_more code state first more on some)

pub adds_two : (code : List Insn) (state first second : State) (regs : Regs) (most : ℕ) (old mid new : List End) (all : Bool)
    → LeadsOn code state first → LeadsOn code state second → first.at ≢ second.at
    → ((input : CallData) → Comes state input → Comes first input ⊎ Comes second input) → AddsEnds code first most old mid true
    → AddsEnds code second most mid new all → AddsEnds code state most old new all
adds_two code state first second regs most old mid new true on other_on ne either (one, e, ends) (two, f, others) =
    (one ++ two, f ∙ ap (λ l. l ++ two) e ∙ append_assoc old one two, all_two code state first second regs one two on other_on ne either ends others)
adds_two code state first second regs most old mid new false on other_on ne either (one, e, ends) (two, lt, others) =
    let l = length-append one two in
    let m = ap length e ∙ length-append old one in
    (one ++ two, omega (arith, l, m, lt), two_more code state first second regs one two on other_on ne ends.some others)

pub adds_end : (code : List Insn) (state : State) (most : ℕ) (old new : List End) (end : End) → end.region ≡ state.region → HasLeast end
    → EndsAt code state end.answer → new ≡ old ++ end ∷ [] → AddsEnds code state most old new true
adds_end code state most old new end same one ends_at e = (end ∷ [], e, end_here code state end same one ends_at)

pub adds_none : (code : List Insn) (state : State) (most : ℕ) (old new : List End) (end : End) → end.region ≡ state.region → HasLeast end
    → EndsAt code state end.answer → most ≤ length old → AddsEnds code state most old new false
adds_none code state most old new end same one ends_at full =
    (end ∷ [], omega (arith, full), (end_here code state end same one ends_at).some)

pub ok_more : {T E : Type 0} (r : Result T E) (P Q : T → Type 0) → ((x : T) → P x → Q x) → IfOk r P → IfOk r Q
ok_more (Ok x) P Q f h = f x h
ok_more (Err e) P Q f h = tt
