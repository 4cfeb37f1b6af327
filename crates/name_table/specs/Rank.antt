-- The place of a name among the names in their order, or the place that it would have.
use Rattle.std.specs.Prelude.{◌≡◌, ℕ, ◌<◌, ◌≤◌, List, length, true, false}
use Rattle.name_table.specs.Before.{is_before}
use Rattle.name_table.specs.NameAt.{name_at}

-- the names below the rank come before this one, and those from the rank on do not
pub record IsRank (names : List (List ℕ)) (places : List ℕ) (name : List ℕ) (rank : ℕ) : Type 0 where
  pub in_range : rank ≤ length places
  pub before : (k : ℕ) → k < rank → is_before (name_at names places k) name ≡ true
  pub not_before : (k : ℕ) → rank ≤ k → k < length places → is_before (name_at names places k) name ≡ false
