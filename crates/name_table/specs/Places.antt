-- The places of the names of a list, in the order of the names.
use Rattle.std.specs.Prelude.{◌≡◌, ℕ, ◌<◌, List, length, slice_index, true}
use Rattle.name_table.specs.Before.{is_before}
use Rattle.name_table.specs.NameAt.{name_at}

-- these are the places of all the names, each name before the next
pub record ArePlaces (names : List (List ℕ)) (places : List ℕ) : Type 0 where
  pub within : (k : ℕ) → k < length places → slice_index places k < length names
  pub rising : (j k : ℕ) → j < k → k < length places → is_before (name_at names places j) (name_at names places k) ≡ true
  pub all : (place : ℕ) → place < length names → (k : ℕ) × (k < length places) × (slice_index places k ≡ place)
