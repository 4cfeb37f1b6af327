-- The badness that a stored test gives.
use Rattle.std.proofs.Common.{◌≡◌, ℕ, Some, None, Option, refl}
use Rattle.exposure_score.specs.declared.facts.Fact.{Fact}
use Rattle.exposure_score.specs.Badness.{IsBadness}

pub by_stored : {T : Type 0} (Answers : T → ℕ → Type 0) (fact : Option Fact) (stored : Option T) (test : T) (answer : ℕ) → fact ≡ None
    → stored ≡ Some test → Answers test answer
    → IsBadness Answers fact stored (Some answer)
by_stored Answers fact stored test answer none some h = rw (none, some) (answer, h, refl)
