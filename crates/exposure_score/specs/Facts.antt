-- What a stored test says of facts.
use Rattle.std.specs.Prelude.{◌≡◌, ℕ, ◌≤◌}
use denote.Ref.{Bor}
use Rattle.exposure_score.specs.declared.facts.Facts.{Facts}

-- a call of a closure at these facts may give the answer, which is at most the range
pub record Gives (may_answer : Bor Facts → ℕ → Type 0) (range : ℕ) (facts : Facts) (answer : ℕ) : Type 0 where
  pub shown : Bor Facts
  pub shows : shown.now ≡ facts
  pub says : may_answer shown answer
  pub within_range : answer ≤ range
