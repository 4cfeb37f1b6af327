-- A name is found at its place.
use Rattle.std.proofs.Common.{◌≡◌, ℕ, ◌+◌, ◌<◌, Bool, true, false, cond, not, List, [], ◌∷◌, length, map, get_or, nat_lt}
use Rattle.std.proofs.Common.{suc, None, Some, refl, sym, ap, ◌∙◌, subst, arith, inl, inr}
use Rattle.std.specs.Prelude.{position}
use Rattle.std.specs.List.{position_or_len}
use Rattle.std.specs.Str.{bytes_eq}
use Rattle.std.proofs.lemmas.Bool.{cases_order, both_ways, cond-true, cond-false, lt-ltb, le-ltb, false_from_ne_true}
use Rattle.std.proofs.lemmas.List.Sums.{position_or_len_is}
use Rattle.name_table.specs.Before.{is_before}
use Rattle.name_table.specs.NameAt.{name_at}
use Rattle.name_table.specs.Places.{ArePlaces}
use Rattle.name_table.specs.Rank.{IsRank}
use Rattle.name_table.proofs.Halving.{name_of_line}
use Rattle.name_table.proofs.Order.{not_before_itself, same_from_ties, ties_back}

module _ {L : Type 0} (name_of : L → List ℕ) (test : List ℕ → Bool) where
  -- the names pass where the lines pass by their names
  place_of_line : (lines : List L) → position_or_len test (map name_of lines) ≡ position_or_len (λ line. test (name_of line)) lines
  place_of_line [] = refl
  place_of_line (line ∷ lines) = ap (λ n. cond (not (test (name_of line))) (1 + n) 0) (place_of_line lines)

  as_many : (lines : List L) → length (map name_of lines) ≡ length lines
  as_many [] = refl
  as_many (line ∷ lines) = ap suc (as_many lines)

  placed : (lines : List L) → position test (map name_of lines) ≡ position (λ line. test (name_of line)) lines
  placed lines = λ j. cond (nat_lt (place_of_line lines j) (as_many lines j)) (Some (place_of_line lines j)) None

-- the first place that passes is the position
module _ (test : List ℕ → Bool) (names : List (List ℕ)) where
  position_at : (place : ℕ) → place < length names → ((k : ℕ) → k < place → test (get_or names k []) ≡ false)
      → test (get_or names place []) ≡ true → position test names ≡ Some place
  position_at place lt below here =
      ap (λ n. cond (nat_lt n (length names)) (Some n) None) (position_or_len_is test names place [] (omega arith) below (λ _. here))
      ∙ cond-true _ (Some place) None (lt-ltb place (length names) lt)

  position_none : ((k : ℕ) → k < length names → test (get_or names k []) ≡ false) → position test names ≡ None
  position_none none =
      ap (λ n. cond (nat_lt n (length names)) (Some n) None)
      (position_or_len_is test names (length names) [] (omega arith) none (λ lt. absurd (omega arith)))
      ∙ cond-false _ (Some (length names)) None (le-ltb (length names) (length names) (omega arith))

module _ (names : List (List ℕ)) (places : List ℕ) (are : ArePlaces names places)
    (name : List ℕ) (rank : ℕ) (ranks : IsRank names places name rank) where
  -- a name stands at its rank alone
  at_rank : (k : ℕ) → k < length places → name_at names places k ≡ name → k ≡ rank
  at_rank k lt e = elim (cases_order k rank) [
    | inl same ↦ same
    | inr apart ↦ elim apart [
      | inl below ↦ absurd (both_ways _ (not_before_itself name) (subst (λ n. is_before n name ≡ true) e (ranks.before k below)))
      | inr above ↦ absurd (both_ways _ (ranks.not_before rank (omega arith) (omega arith)) (follows above))
    ]
  ]
    where
      follows : rank < k → is_before (name_at names places rank) name ≡ true
      follows above = subst (λ n. is_before (name_at names places rank) n ≡ true) e (are.rising rank k above lt)

  -- the place at which a name stands is the one at its rank
  its_place : (place : ℕ) → place < length names → bytes_eq name (get_or names place []) ≡ true
      → (rank < length places) × (get_or places rank 0 ≡ place)
  its_place place lt same =
      let there = are.all place lt in
      let at = at_rank there.0 there.1 (ap (λ p. get_or names p []) there.2 ∙ sym (same_from_ties _ _ same)) in
      (subst (λ k. k < length places) at there.1, subst (λ k. get_or places k 0 ≡ place) at there.2)

  stands : rank < length places → bytes_eq name (name_at names places rank) ≡ true
      → position (bytes_eq name) names ≡ Some (get_or places rank 0)
  stands lt same = position_at (bytes_eq name) names (get_or places rank 0) (are.within rank lt) below same
    where
      below : (k : ℕ) → k < get_or places rank 0 → bytes_eq name (get_or names k []) ≡ false
      below k less = false_from_ne_true _ (λ other.
          let inside = are.within rank lt in
          let e = (its_place k (omega arith) other).1 in absurd (omega arith))

  stands_nowhere : (rank < length places → bytes_eq name (name_at names places rank) ≡ false)
      → position (bytes_eq name) names ≡ None
  stands_nowhere other = position_none (bytes_eq name) names (λ k lt. false_from_ne_true _ (λ same.
      let here = its_place k lt same in
      both_ways _ (other here.0) (ap (λ p. bytes_eq name (get_or names p [])) here.1 ∙ same)))

-- the line at the rank of a name, if there is one, tells whether a line has the name, and its place
module _ {L : Type 0} (name_of : L → List ℕ) (lines : List L) (places : List ℕ) (are : ArePlaces (map name_of lines) places)
    (name : List ℕ) (rank : ℕ) (ranks : IsRank (map name_of lines) places name rank) where
  pub past : rank ≡ length places → None ≡ position (λ line. bytes_eq name (name_of line)) lines
  past e =
      sym (stands_nowhere (map name_of lines) places are name rank ranks (λ lt. absurd (omega arith)))
      ∙ placed name_of (bytes_eq name) lines

  module _ (inside : rank < length places) (line : L) (is : line ≡ get_or lines (get_or places rank 0) line) where
    tied : bytes_eq name (name_at (map name_of lines) places rank) ≡ bytes_eq (name_of line) name
    tied = ap (bytes_eq name) (sym (name_of_line name_of lines places are rank line inside is)) ∙ ties_back name (name_of line)

    pub found : bytes_eq (name_of line) name ≡ true → Some (get_or places rank 0) ≡ position (λ line. bytes_eq name (name_of line)) lines
    found same =
        sym (stands (map name_of lines) places are name rank ranks inside (tied ∙ same))
        ∙ placed name_of (bytes_eq name) lines

    pub missing : bytes_eq (name_of line) name ≡ false → None ≡ position (λ line. bytes_eq name (name_of line)) lines
    missing other =
        sym (stands_nowhere (map name_of lines) places are name rank ranks (λ _. tied ∙ other))
        ∙ placed name_of (bytes_eq name) lines
