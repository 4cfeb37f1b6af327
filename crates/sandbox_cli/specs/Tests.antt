-- The stored tests that the program hands in: two, by what each may answer for the facts of a service.
use Rattle.std.specs.Prelude.{◌≡◌, ℕ, codes, List, [], ◌∷◌}
use Rattle.top_call.specs.exposure_score.Stored.{ambient_count, writable_paths}
use Rattle.top_call.specs.exposure_score.declared.facts.Facts.{Facts}
use denote.Ref.{Bor}

module _ {T : Type 0} (id_of : T → List ℕ) (range_of : T → ℕ) (may_answer : T → Bor Facts → ℕ → Type 0) where
  -- a test with this identifier and range, which gives this answer for any facts
  pub record IsTest (name : List ℕ) (most : ℕ) (says : Facts → ℕ) (test : T) : Type 0 where
    pub id : id_of test ≡ name
    pub range : range_of test ≡ most
    pub answers : (facts : Bor Facts) (answer : ℕ) → may_answer test facts answer → answer ≡ says facts.now

  -- how many ambient capabilities there are, of 41 at most; and how many paths are written or bound, the words in force of
  -- ReadWritePaths= and BindPaths=, of 128 at most
  abbrev pub AreProgramTests : List T → Type 0
  AreProgramTests (one ∷ other ∷ []) = IsTest (codes "AmbientCount") 41 ambient_count one × IsTest
      (codes "WritablePaths") 128 writable_paths other
  AreProgramTests tests = ⊥
