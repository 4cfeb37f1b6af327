-- The words of a group name calls, as a relation.
use Rattle.std.proofs.Common.{◌≡◌, ℕ, zero, suc, ◌+◌, ◌<◌, Bool, true, false, cond, List, [], ◌∷◌, length, map, filter, get_or, Option}
use Rattle.std.proofs.Common.{Some, None, ◌⊎◌, ⊎_elim, inl, inr, refl, sym, ap, ◌∙◌, subst, arith}
use Rattle.std.specs.Prelude.{slice_get, ◌==◌}
use Rattle.std.specs.List.{enumerate_from, Contains}
use Rattle.std.specs.Option.{option_map_or}
use Rattle.std.proofs.lemmas.Bool.{eqb-true}
use Rattle.std.proofs.lemmas.Bool.Decides.{nat_tests}
use Rattle.std.proofs.lemmas.List.Folds.{Any-from_list_any, list_any-from_Any}
use Rattle.call_table.specs.declared.listed.CallLine.{CallLine}
use Rattle.call_table.specs.declared.listed.GroupLine.{GroupLine}
use Rattle.call_table.specs.Names.{behind_at}
use Rattle.call_table.specs.Lookups.{place_named, group_named}
use Rattle.call_table.specs.Members.{has_member, stands_for, stands_for_by, is_member, members_of}
use Rattle.call_table.specs.Meaning.{NamesCall, NamesGroup, StandsFor, IsGroup}
use Rattle.call_table.proofs.Grouping.{has_members}

in_cons : {X : Type 0} (y : X) (xs : List X) (x : X) → Contains (y ∷ xs) x → (y ≡ x) ⊎ Contains xs x
in_cons {X} y xs x h = by h.0 h.1 h.2
  where
    by : (k : ℕ) → k < length (y ∷ xs) → get_or (y ∷ xs) k x ≡ x → (y ≡ x) ⊎ Contains xs x
    by zero lt e = inl e
    by (suc k) lt e = inr (k, omega arith, e)

at_front : {X : Type 0} (xs : List X) (x : X) → Contains (x ∷ xs) x
at_front xs x = (0, omega arith, refl)

further : {X : Type 0} (y : X) (xs : List X) (x : X) → Contains xs x → Contains (y ∷ xs) x
further y xs x h = let low : h.0 < length xs = h.1 in (suc h.0, omega arith, h.2)

-- a call is picked, with the count beginning at a number
pub record Picked (n : ℕ) (calls : List CallLine) (test : ℕ × CallLine → Bool) (position : ℕ) : Type 0 where
  pub place : ℕ
  pub call : CallLine
  pub at : n + place ≡ position
  pub there : slice_get calls place ≡ Some call
  pub passes : test (position, call) ≡ true

later : (n : ℕ) (first : CallLine) (calls : List CallLine) (test : ℕ × CallLine → Bool) (position : ℕ)
    → Picked (n + 1) calls test position → Picked n (first ∷ calls) test position
later n first calls test position h =
    record { place = suc h.place; call = h.call; at = omega (arith, h.at); there = h.there; passes = h.passes }

picked_from : (n : ℕ) (calls : List CallLine) (test : ℕ × CallLine → Bool) (position : ℕ)
    → Contains (map (λ (c : ℕ × CallLine). c.0) (filter test (enumerate_from n calls))) position → Picked n calls test position
picked_from n [] test position h = let none : h.0 < 0 = h.1 in absurd (omega arith)
picked_from n (call ∷ calls) test position h = by (test (n, call)) refl (picked_from (n + 1) calls test position) h
  where
    rest : List ℕ
    rest = map (λ (c : ℕ × CallLine). c.0) (filter test (enumerate_from (n + 1) calls))

    by : (b : Bool) → test (n, call) ≡ b
        → (Contains (map (λ (c : ℕ × CallLine). c.0) (filter test (enumerate_from (n + 1) calls))) position
        → Picked (n + 1) calls test position)
        → Contains (map (λ (c : ℕ × CallLine). c.0)
        (cond b ((n, call) ∷ filter test (enumerate_from (n + 1) calls)) (filter test (enumerate_from (n + 1) calls)))) position
        → Picked n (call ∷ calls) test position
    by true e ih g =
        ⊎_elim
        (λ (same : n ≡ position). record
        { place = 0; call = call; at = omega arith; there = refl; passes = ap (λ m. test (m, call)) (sym same) ∙ e })
        (λ more. later n call calls test position (ih more))
        (in_cons n (map (λ (c : ℕ × CallLine). c.0) (filter test (enumerate_from (n + 1) calls))) position g)
    by false e ih g = later n call calls test position (ih g)

pub picked_in : (n : ℕ) (calls : List CallLine) (test : ℕ × CallLine → Bool) (place : ℕ) (call : CallLine)
    → slice_get calls place ≡ Some call → test (n + place, call) ≡ true
    → Contains (map (λ (c : ℕ × CallLine). c.0) (filter test (enumerate_from n calls))) (n + place)
picked_in n [] test place call there passes = cc
picked_in n (first ∷ calls) test zero call there passes =
    let same : first ≡ call = cc in
    let here : test (n, first) ≡ true = ap (λ c. test (n, c)) same ∙ ap (λ m. test (m, call)) (omega arith) ∙ passes in
    let ns = map (λ (c : ℕ × CallLine). c.0) (filter test (enumerate_from (n + 1) calls)) in
    let at : n ≡ n + 0 = omega arith in
    subst (λ (b : Bool). Contains
    (map (λ (c : ℕ × CallLine). c.0)
    (cond b ((n, first) ∷ filter test (enumerate_from (n + 1) calls)) (filter test (enumerate_from (n + 1) calls)))) (n + 0)) (sym here)
    (subst (λ m. Contains (n ∷ ns) m) at (at_front ns n))
picked_in n (first ∷ calls) test (suc place) call there passes =
    by (test (n, first))
    (subst (λ m. Contains (map (λ (c : ℕ × CallLine). c.0) (filter test (enumerate_from (n + 1) calls))) m) move
    (picked_in (n + 1) calls test place call there (ap (λ m. test (m, call)) move ∙ passes)))
  where
    move : n + 1 + place ≡ n + suc place
    move = omega arith

    by : (b : Bool) → Contains (map (λ (c : ℕ × CallLine). c.0) (filter test (enumerate_from (n + 1) calls))) (n + suc place)
        → Contains (map (λ (c : ℕ × CallLine). c.0)
        (cond b ((n, first) ∷ filter test (enumerate_from (n + 1) calls)) (filter test (enumerate_from (n + 1) calls)))) (n + suc place)
    by true g = further n (map (λ (c : ℕ × CallLine). c.0) (filter test (enumerate_from (n + 1) calls))) (n + suc place) g
    by false g = g

-- a word names a call, as a test and as a relation
member_test : (position : ℕ) (group : GroupLine) → has_member position group ≡ true → Contains group.members position
member_test position group h =
    let some = Any-from_list_any (λ member. member == position) group.members h in
    let same : some.1 ≡ position = eqb-true some.1 position some.4 in
    subst (Contains group.members) same (some.0, some.2, some.3)

member_passes : (position : ℕ) (group : GroupLine) → Contains group.members position → has_member position group ≡ true
member_passes position group h = list_any-from_Any (λ member. member == position) group.members (h.0, position, h.1, h.2, same position)
  where
    same : (n : ℕ) → n == n ≡ true
    same n = grind (arith, nat_tests)

first_from : (o : Option ℕ) (position : ℕ) → option_map_or (λ place. place == position) o false ≡ true → o ≡ Some position
first_from None position h = cc
first_from (Some place) position h = ap Some (eqb-true place position h)

same : (n : ℕ) → n == n ≡ true
same n = grind (arith, nat_tests)

stands_from : (calls : List CallLine) (groups : List GroupLine) (word : List ℕ) (position : ℕ) (call : CallLine)
    → stands_for calls groups word (position, call) ≡ true → StandsFor calls groups word position
stands_from calls groups word position call = by (behind_at word) refl
  where
    found : (name : List ℕ) → behind_at word ≡ Some name → (o : Option GroupLine) → group_named name groups ≡ o
        → option_map_or (has_member position) o false ≡ true → StandsFor calls groups word position
    found name e None g h = cc
    found name e (Some group) g h =
        inr (record { name = name; group = group; behind = e; found = g; member = member_test position group h })

    by : (o : Option (List ℕ)) → behind_at word ≡ o → stands_for_by calls groups word (position, call) o ≡ true
        → StandsFor calls groups word position
    by None e h = inl (record { plain = e; first = first_from (place_named word calls) position h })
    by (Some name) e h = found name e (group_named name groups) refl h

stands_passes : (calls : List CallLine) (groups : List GroupLine) (word : List ℕ) (position : ℕ) (call : CallLine)
    → StandsFor calls groups word position → stands_for calls groups word (position, call) ≡ true
stands_passes calls groups word position call h =
    ⊎_elim
    (λ (names : NamesCall calls word position). ap (stands_for_by calls groups word (position, call)) names.plain
    ∙ ap (λ (o : Option ℕ). option_map_or (λ place. place == position) o false) names.first ∙ same position)
    (λ (names : NamesGroup groups word position).
    ap (stands_for_by calls groups word (position, call)) names.behind
    ∙ ap (λ (o : Option GroupLine). option_map_or (has_member position) o false) names.found
    ∙ member_passes position names.group names.member)
    h

pub is_group : (calls : List CallLine) (groups : List GroupLine) (name : List ℕ) (words : List (List ℕ))
    → IsGroup calls groups name words (record { name = name; members = members_of calls groups words })
is_group calls groups name words = record {
  called = refl;
  ascending = (has_members calls groups words name).ascending;
  members = λ position. (
    λ h.
        let picked = picked_from 0 calls (is_member calls groups words) position h in
        let at : picked.place ≡ position = omega (arith, picked.at) in
        let some = Any-from_list_any (λ word. stands_for calls groups word (position, picked.call)) words picked.passes in
        (picked.call, some.1, subst (λ p. slice_get calls p ≡ Some picked.call) at picked.there, (some.0, some.2, some.3), stands_from calls groups some.1 position picked.call some.4),
    λ call word there is stands.
        let at : 0 + position ≡ position = omega arith in
        let passes : is_member calls groups words (position, call) ≡ true = list_any-from_Any (λ w. stands_for calls groups w (position, call)) words (is.0, word, is.1, is.2, stands_passes calls groups word position call stands) in
        subst (Contains (members_of calls groups words)) at
        (picked_in 0 calls (is_member calls groups words) position call there
        (ap (λ m. is_member calls groups words (m, call)) at ∙ passes)),
  );
}
