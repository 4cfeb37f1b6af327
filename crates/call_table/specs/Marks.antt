-- Marks on the calls of a table.
use Rattle.std.specs.Prelude.{◌≡◌, ℕ, ◌<◌, ◌||◌, Bool, false, List, length, slice_index_or}
use Rattle.call_table.specs.declared.listed.CallLine.{CallLine}

-- the calls that pass the test are marked, and the others keep their marks
pub record Marks (calls : List CallLine) (test : ℕ × CallLine → Bool) (old new : List Bool) : Type 0 where
  pub as_many : length new ≡ length calls
  pub each : (at : ℕ) (d : CallLine) → at < length calls → slice_index_or new at false
      ≡ (slice_index_or old at false || test (at, slice_index_or calls at d))
