-- Tests that the caller passes in, of any type: each has an identifier, and answers that it may give for facts.
use Rattle.std.specs.Prelude.{ℕ, List}
use Rattle.exposure_score.specs.Facts.{Gives}
use Rattle.exposure_score.specs.declared.facts.Facts.{Facts}
use denote.Ref.{Bor}

pub record StoredTests : Type 1 where
  pub Test : Type 0
  pub tests : List Test
  pub id_of : Test → List ℕ
  pub Answers : Facts → Test → ℕ → Type 0

-- the tests of one type, given the identifier and the range of each, and the answers that a call of it may give
abbrev pub stored_by : {T : Type 0} → (T → List ℕ) → (T → ℕ) → (T → Bor Facts → ℕ → Type 0) → List T → StoredTests
stored_by {T} id_of range_of may_answer tests = record {
  Test = T;
  tests = tests;
  id_of = id_of;
  Answers = λ facts test. Gives (may_answer test) (range_of test) facts;
}
