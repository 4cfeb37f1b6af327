-- The number of a capability is read from its name, capabilities(7).
use Rattle.std.proofs.Common.{◌≡◌, ℕ, zero, suc, ◌+◌, ◌<◌, ◌≤◌, Bool, true, List, [], ◌∷◌, cond, eqb, length, get_or, refl, ◌∙◌, arith}
use Rattle.std.specs.Prelude.{◌&&◌}
use Rattle.std.specs.Str.{bytes_eq}
use Rattle.std.proofs.lemmas.Bool.{and_parts, eqb-true}
use Rattle.report_text.specs.cap_sets.Names.{names, name_of}

-- the place of the first name that is this
place_among : List ℕ → List (List ℕ) → ℕ
place_among text [] = 0
place_among text (name ∷ names) = cond (bytes_eq name text) 0 (place_among text names + 1)

pub cap_number : List ℕ → ℕ
cap_number text = place_among text names

all_placed : ℕ → List (List ℕ) → Bool
all_placed at [] = true
all_placed at (name ∷ rest) = eqb (place_among name names) at && all_placed (at + 1) rest

placed : all_placed 0 names ≡ true
unfolding all_placed place_among
placed = refl

at_place : (at k : ℕ) (rest : List (List ℕ)) → all_placed at rest ≡ true → k < length rest → place_among (get_or rest k []) names ≡ k + at
unfolding all_placed
at_place at k [] h lt = absurd (omega arith)
at_place at zero (name ∷ rest) h lt = eqb-true _ _ (and_parts _ _ h).0 ∙ omega arith
at_place at (suc k) (name ∷ rest) h lt = at_place (at + 1) k rest (and_parts _ _ h).1 (omega arith) ∙ omega arith

pub cap_back : (number : ℕ) → number ≤ 40 → cap_number (name_of number) ≡ number
unfolding name_of cap_number
cap_back number h = at_place 0 number names placed (omega arith) ∙ omega arith
