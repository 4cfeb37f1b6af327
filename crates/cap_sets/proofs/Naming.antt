-- Any two names differ, even without regard to case.
use Rattle.std.proofs.Common.{◌≡◌, ℕ, zero, suc, ◌+◌, ◌<◌, ◌≤◌, Bool, true, List, [], ◌∷◌, Option, Some, None, cond, eqb, map, length}
use Rattle.std.proofs.Common.{get_or, refl, sym, ap, ◌∙◌, arith}
use Rattle.std.specs.Prelude.{◌&&◌}
use Rattle.std.specs.Str.{bytes_eq}
use Rattle.std.proofs.lemmas.Bool.{and_parts, eqb-true}
use Rattle.std.proofs.lemmas.List.{length-map, get_or-map}
use Rattle.cap_sets.specs.Names.{names, name_of, in_lower_case, table}

-- the place of the first name that is this text in lower case
number_of : List ℕ → List (List ℕ) → ℕ
number_of text [] = 0
number_of text (name ∷ names) = cond (bytes_eq (in_lower_case name) text) 0 (number_of text names + 1)

all_numbered : ℕ → List (List ℕ) → Bool
all_numbered at [] = true
all_numbered at (name ∷ rest) = eqb (number_of (in_lower_case name) names) at && all_numbered (at + 1) rest

numbered : all_numbered 0 names ≡ true
unfolding all_numbered number_of
numbered = refl

at_number : (at k : ℕ) (rest : List (List ℕ)) → all_numbered at rest ≡ true → k < length rest
    → number_of (in_lower_case (get_or rest k [])) names ≡ k + at
unfolding all_numbered
at_number at k [] h lt = absurd (omega arith)
at_number at zero (name ∷ rest) h lt = eqb-true _ _ (and_parts _ _ h).0 ∙ omega arith
at_number at (suc k) (name ∷ rest) h lt = at_number (at + 1) k rest (and_parts _ _ h).1 (omega arith) ∙ omega arith

pub distinct : (one other : ℕ) → one ≤ 40 → other ≤ 40 → in_lower_case (name_of one) ≡ in_lower_case (name_of other) → one ≡ other
unfolding name_of
distinct one other h g e =
    let first = at_number 0 one names numbered (omega arith) in
    let second = at_number 0 other names numbered (omega arith) in
    let same : number_of (in_lower_case (name_of one)) names ≡ number_of (in_lower_case (name_of other)) names = ap (λ text. number_of text names) e in
    omega arith

pub flags_length : {X : Type 0} (row : X → List ℕ × ℕ) (flags : List X) → map row flags ≡ table → length flags ≡ 41
flags_length row flags e = sym (length-map flags row) ∙ ap length e

-- a table of flags has the name at this place
pub name_at : {X : Type 0} (row : X → List ℕ × ℕ) (flags : List X) (i : ℕ) (d : X) → map row flags ≡ table → i ≤ 40
    → (row (get_or flags i d)).0 ≡ name_of i
unfolding name_of
name_at row flags i d e h =
    let long : length flags ≡ 41 = flags_length row flags e in
    let there : i < length flags = omega arith in
    let shown : i < length table = omega arith in
    ap (λ (p : List ℕ × ℕ). p.0) (sym (get_or-map row flags i d ([], 0) there) ∙ ap (λ rows. get_or rows i ([], 0)) e)
    ∙ sym (get_or-map (λ (p : List ℕ × ℕ). p.0) table i ([], 0) [] shown)

-- a name at one place is at no other place
pub found_at : (at : ℕ) (text : List ℕ) → at ≤ 40 → in_lower_case (name_of at) ≡ in_lower_case text → (number : ℕ) → number ≤ 40 →
    (Some at ≡ Some number → in_lower_case (name_of number) ≡ in_lower_case text) ×
    (in_lower_case (name_of number) ≡ in_lower_case text → Some at ≡ Some number)
found_at at text h e number g =
    (λ same. let there : at ≡ number = cc in ap (λ n. in_lower_case (name_of n)) (sym there) ∙ e, λ named. ap Some (distinct at number h g (e ∙ sym named)))

abbrev nothing : Option ℕ
nothing = None

pub found_nowhere : (text : List ℕ) → ((k : ℕ) → k < 41 → in_lower_case (name_of k) ≡ in_lower_case text → ⊥) → (number : ℕ) → number ≤ 40 →
    (nothing ≡ Some number → in_lower_case (name_of number) ≡ in_lower_case text) ×
    (in_lower_case (name_of number) ≡ in_lower_case text → nothing ≡ Some number)
found_nowhere text none number h = (λ same. absurd (cc), λ named. absurd (none number (omega arith) named))
