-- One name tells where those before it and those after it stand.
use Rattle.std.proofs.Common.{◌≡◌, ℕ, ◌+◌, ◌<◌, ◌≤◌, true, false, List, [], length, map, get_or, sym, ap, ◌∙◌, subst, arith, inl, inr}
use Rattle.std.proofs.lemmas.Bool.{cases_order, false_from_ne_true, both_ways}
use Rattle.std.proofs.lemmas.List.{get_or-map, length-map}
use Rattle.name_table.specs.Before.{is_before}
use Rattle.name_table.specs.NameAt.{name_at}
use Rattle.name_table.specs.Places.{ArePlaces}
use Rattle.name_table.proofs.Order.{before_next}

module _ {L : Type 0} (name_of : L → List ℕ) (lines : List L) (places : List ℕ) (are : ArePlaces (map name_of lines) places) where
  -- each place is that of a line
  pub place_in_range : (k : ℕ) → k < length places → get_or places k 0 < length lines
  place_in_range k lt = subst (λ n. get_or places k 0 < n) (length-map lines name_of) (are.within k lt)

  -- the name of that line
  pub name_of_line : (k : ℕ) (line : L) → k < length places → line ≡ get_or lines (get_or places k 0) line
      → name_of line ≡ name_at (map name_of lines) places k
  name_of_line k line lt e = ap name_of e ∙ sym (get_or-map name_of lines (get_or places k 0) line [] (place_in_range k lt))

  module _ (name : List ℕ) (middle : ℕ) (inside : middle < length places)
      (line : L) (is : line ≡ get_or lines (get_or places middle 0) line) where
    called : name_of line ≡ name_at (map name_of lines) places middle
    called = name_of_line middle line inside is

    pub before_too : is_before (name_of line) name ≡ true
        → (k : ℕ) → k < middle + 1 → is_before (name_at (map name_of lines) places k) name ≡ true
    before_too here k below = elim (cases_order k middle) [
      | inl same ↦ ap (λ n. is_before (name_at (map name_of lines) places n) name) same ∙ ap (λ n. is_before n name) (sym called) ∙ here
      | inr apart ↦ elim apart [
        | inl less ↦ before_next _ (name_of line) _ (ap (is_before _) called ∙ are.rising k middle less inside) here
        | inr more ↦ absurd (omega arith)
      ]
    ]

    pub not_before_too : is_before (name_of line) name ≡ false
        → (k : ℕ) → middle ≤ k → k < length places → is_before (name_at (map name_of lines) places k) name ≡ false
    not_before_too here k from lt = elim (cases_order k middle) [
      | inl same ↦ ap (λ n. is_before (name_at (map name_of lines) places n) name) same ∙ ap (λ n. is_before n name) (sym called) ∙ here
      | inr apart ↦ elim apart [
        | inl less ↦ absurd (omega arith)
        | inr more ↦ false_from_ne_true _ (λ e. both_ways _ here (before_next (name_of line) _ _ (follows k more lt) e))
      ]
    ]
      where
        follows : (k : ℕ) → middle < k → k < length places → is_before (name_of line) (name_at (map name_of lines) places k) ≡ true
        follows k more lt = ap (λ n. is_before n (name_at (map name_of lines) places k)) called ∙ are.rising middle k more lt
