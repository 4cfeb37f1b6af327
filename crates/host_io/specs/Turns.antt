-- Calls are counted, and the calls with given numbers fail.
use Rattle.std.specs.Prelude.{ℕ, List, ◌==◌, cond, Bool}
use Rattle.std.specs.List.{list_any}
use Rattle.host_io.specs.Causes.{next_of}

-- the numbers of the calls that fail, how many calls were made and how many failed
pub record TurnCounts : Type 0 where
  pub failing : List ℕ
  pub made : ℕ
  pub faults : ℕ

-- the next call has one of the failing numbers
abbrev pub fails_now : TurnCounts → Bool
fails_now turns = list_any (λ number. number == next_of turns.made) turns.failing

-- one more call was made, and it is counted as a fault if it fails
abbrev pub after_turn : TurnCounts → TurnCounts
after_turn turns = record turns { made = next_of turns.made; faults = cond (fails_now turns) (next_of turns.faults) turns.faults }
