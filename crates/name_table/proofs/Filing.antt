-- A new name is put at its rank.
use Rattle.std.proofs.Common.{◌≡◌, ℕ, zero, suc, ◌+◌, ◌-◌, ◌<◌, ◌≤◌, true, false, List, [], ◌∷◌, ◌++◌, length, map, get_or}
use Rattle.std.proofs.Common.{refl, sym, ap, ◌∙◌, arith, inl, inr}
use Rattle.std.specs.List.{insert, list_any}
use Rattle.std.specs.Str.{bytes_eq}
use Rattle.std.proofs.lemmas.Bool.{cases_order, false_from_ne_true, both_ways, or_left, or_right}
use Rattle.std.proofs.lemmas.List.{map-append, length-append, get_or_append_left}
use Rattle.std.proofs.lemmas.List.Edits.{get_or-insert_at, get_or-insert_below, get_or-insert_above, length-insert}
use Rattle.std.proofs.Math.Seq.{get_or-append_seam}
use Rattle.name_table.specs.Before.{is_before}
use Rattle.name_table.specs.NameAt.{name_at}
use Rattle.name_table.specs.Places.{ArePlaces}
use Rattle.name_table.specs.Rank.{IsRank}
use Rattle.name_table.proofs.Order.{before_other, ties_back}

-- the names and their places with the new one
abbrev longer : List (List ℕ) → List ℕ → List (List ℕ)
longer names name = names ++ name ∷ []

abbrev filed : List (List ℕ) → List ℕ → ℕ → List ℕ
filed names places rank = insert places rank (length names)

abbrev name_now : List (List ℕ) → List ℕ → List ℕ → ℕ → ℕ → List ℕ
name_now names places name rank k = name_at (longer names name) (filed names places rank) k

module _ (names : List (List ℕ)) (places : List ℕ) (are : ArePlaces names places)
    (name : List ℕ) (rank : ℕ) (ranks : IsRank names places name rank)
    (is_new : (place : ℕ) → place < length names → bytes_eq name (get_or names place []) ≡ false) where
  as_long : length (filed names places rank) ≡ length places + 1
  as_long = length-insert places rank (length names) ranks.in_range

  one_more : length (longer names name) ≡ length names + 1
  one_more = length-append names (name ∷ [])

  -- the places below the rank stay, the new one is at the rank, and the others stand one further
  place_below : (k : ℕ) → k < rank → get_or (filed names places rank) k 0 ≡ get_or places k 0
  place_below k lt = get_or-insert_below places rank (length names) 0 k lt ranks.in_range

  place_here : get_or (filed names places rank) rank 0 ≡ length names
  place_here = get_or-insert_at places rank (length names) 0 ranks.in_range

  place_above : (k m : ℕ) → m ≡ k + 1 → rank ≤ k → get_or (filed names places rank) m 0 ≡ get_or places k 0
  place_above k m e le =
      ap (λ n. get_or (filed names places rank) n 0) e
      ∙ get_or-insert_above places rank (length names) 0 k le ranks.in_range

  -- and so their names
  still_named : (k : ℕ) → k < length places → get_or (longer names name) (get_or places k 0) [] ≡ name_at names places k
  still_named k lt = get_or_append_left names (name ∷ []) [] (get_or places k 0) (are.within k lt)

  name_below : (k : ℕ) → k < rank → name_now names places name rank k ≡ name_at names places k
  name_below k lt =
      let le = ranks.in_range in
      ap (λ p. get_or (longer names name) p []) (place_below k lt) ∙ still_named k (omega arith)

  name_here : (k : ℕ) → k ≡ rank → name_now names places name rank k ≡ name
  name_here k same =
      ap (name_now names places name rank) same ∙ ap (λ p. get_or (longer names name) p []) place_here
      ∙ get_or-append_seam names name [] []

  name_above : (k m : ℕ) → m ≡ k + 1 → rank ≤ k → k < length places → name_now names places name rank m ≡ name_at names places k
  name_above k m e le lt = ap (λ p. get_or (longer names name) p []) (place_above k m e le) ∙ still_named k lt

  -- the new name comes before those from its rank on
  after : (k : ℕ) → rank ≤ k → k < length places → is_before name (name_at names places k) ≡ true
  after k le lt =
      before_other (name_at names places k) name (ranks.not_before k le lt)
      (ties_back (name_at names places k) name ∙ is_new (get_or places k 0) (are.within k lt))

  within_more : (k : ℕ) → k < length (filed names places rank) → get_or (filed names places rank) k 0 < length (longer names name)
  within_more k lt = elim (cases_order k rank) [
    | inl same ↦ let e = ap (λ n. get_or (filed names places rank) n 0) same ∙ place_here in omega (arith, one_more)
    | inr apart ↦ elim apart [
      | inl less ↦
          let le = ranks.in_range in
          let e = place_below k less in
          let inside = are.within k (omega arith) in
          omega (arith, one_more)
      | inr more ↦
          let e = place_above (k - 1) k (omega arith) (omega arith) in
          let inside = are.within (k - 1) (omega (arith, as_long)) in
          omega (arith, one_more)
    ]
  ]

  -- the order of two, from the order of what stands there
  ordered : (j k : ℕ) (a b : List ℕ) → name_now names places name rank j ≡ a → name_now names places name rank k ≡ b
      → is_before a b ≡ true → is_before (name_now names places name rank j) (name_now names places name rank k) ≡ true
  ordered j k a b d e h = ap (λ n. is_before n (name_now names places name rank k)) d ∙ ap (is_before a) e ∙ h

  rising_more : (j k : ℕ) → j < k → k < length (filed names places rank)
      → is_before (name_now names places name rank j) (name_now names places name rank k) ≡ true
  rising_more j k lt inside = elim (cases_order k rank) [
    | inl same ↦ ordered j k _ _ (name_below j (omega arith)) (name_here k same) (ranks.before j (omega arith))
    | inr apart ↦ elim apart [
      | inl less ↦
          let le = ranks.in_range in
          ordered j k _ _ (name_below j (omega arith)) (name_below k less) (are.rising j k lt (omega arith))
      | inr more ↦ above more (name_above (k - 1) k (omega arith) (omega arith) (omega (arith, as_long)))
    ]
  ]
    where
      above : rank < k → name_now names places name rank k ≡ name_at names places (k - 1)
          → is_before (name_now names places name rank j) (name_now names places name rank k) ≡ true
      above more e = elim (cases_order j rank) [
        | inl same ↦ ordered j k _ _ (name_here j same) e (after (k - 1) (omega arith) (omega (arith, as_long)))
        | inr apart ↦ elim apart [
          | inl less ↦ ordered j k _ _ (name_below j less) e (are.rising j (k - 1) (omega arith) (omega (arith, as_long)))
          | inr beyond ↦
              ordered j k _ _ (name_above (j - 1) j (omega arith) (omega arith) (omega (arith, as_long))) e
              (are.rising (j - 1) (k - 1) (omega arith) (omega (arith, as_long)))
        ]
      ]

  -- a place that stood among the places still does
  kept : (place : ℕ) → (k : ℕ) × (k < length places) × (get_or places k 0 ≡ place)
      → (k : ℕ) × (k < length (filed names places rank)) × (get_or (filed names places rank) k 0 ≡ place)
  kept place (k, inside, is) = elim (cases_order k rank) [
    | inl same ↦ (k + 1, omega (arith, as_long), place_above k (k + 1) refl (omega arith) ∙ is)
    | inr apart ↦ elim apart [
      | inl less ↦ (k, omega (arith, as_long), place_below k less ∙ is)
      | inr more ↦ (k + 1, omega (arith, as_long), place_above k (k + 1) refl (omega arith) ∙ is)
    ]
  ]

  all_more : (place : ℕ) → place < length (longer names name)
      → (k : ℕ) × (k < length (filed names places rank)) × (get_or (filed names places rank) k 0 ≡ place)
  all_more place lt = elim (cases_order place (length names)) [
    | inl same ↦ let le = ranks.in_range in (rank, omega (arith, as_long), place_here ∙ sym same)
    | inr apart ↦ elim apart [
      | inl less ↦ kept place (are.all place less)
      | inr more ↦ absurd (omega (arith, one_more))
    ]
  ]

  pub filed_more : ArePlaces (longer names name) (filed names places rank)
  filed_more = record { within = within_more; rising = rising_more; all = all_more }

module _ {L : Type 0} (name_of : L → List ℕ) where
  module _ (name : List ℕ) where
    any_from : (lines : List L) (place : ℕ) → place < length (map name_of lines)
        → bytes_eq name (get_or (map name_of lines) place []) ≡ true → list_any (λ line. bytes_eq name (name_of line)) lines ≡ true
    any_from [] place lt same = absurd (omega arith)
    any_from (line ∷ lines) zero lt same = or_left _ _ same
    any_from (line ∷ lines) (suc place) lt same = or_right _ _ (any_from lines place (omega arith) same)

    -- a name that no line has is none of the names
    pub not_among : (lines : List L) → list_any (λ line. bytes_eq name (name_of line)) lines ≡ false
        → (place : ℕ) → place < length (map name_of lines) → bytes_eq name (get_or (map name_of lines) place []) ≡ false
    not_among lines none place lt = false_from_ne_true _ (λ same. both_ways _ none (any_from lines place lt same))

  -- one more line has one more name
  pub names_more : (lines : List L) (line : L) → map name_of (lines ++ line ∷ []) ≡ map name_of lines ++ name_of line ∷ []
  names_more lines line = map-append name_of lines (line ∷ [])
