-- How bad a service is by the test of an identifier: a fact says so, else the first stored test of that identifier. What a stored
-- test is stays open: it has an identifier, and there are answers that it may give.
use Rattle.std.specs.Prelude.{◌≡◌, ℕ, Bool, ◌||◌, is_some, List, find, Option, Some, None}
use Rattle.std.specs.Str.{bytes_eq}
use Rattle.exposure_score.specs.declared.facts.Fact.{Fact}

-- the fact of an identifier
abbrev pub fact_of : List Fact → List ℕ → Option Fact
fact_of facts id = find (λ fact. bytes_eq fact.id id) facts

-- the first stored test of an identifier
abbrev pub stored_of : {T : Type 0} → (T → List ℕ) → List T → List ℕ → Option T
stored_of id_of tests id = find (λ test. bytes_eq (id_of test) id) tests

-- the badness, or none, by the fact and the stored test that there are
abbrev pub IsBadness : {T : Type 0} → (T → ℕ → Type 0) → Option Fact → Option T → Option ℕ → Type 0
IsBadness Answers (Some fact) stored badness = badness ≡ Some fact.badness
IsBadness Answers None (Some test) badness = (answer : ℕ) × Answers test answer × (badness ≡ Some answer)
IsBadness Answers None None badness = badness ≡ None

abbrev pub HasBadness : {T : Type 0} → (T → List ℕ) → (T → ℕ → Type 0) → List Fact → List T → List ℕ → Option ℕ → Type 0
HasBadness id_of Answers facts tests id badness = IsBadness Answers (fact_of facts id) (stored_of id_of tests id) badness

-- there is a fact or a stored test of the identifier
abbrev pub is_known : {T : Type 0} → (T → List ℕ) → List Fact → List T → List ℕ → Bool
is_known id_of facts tests id = is_some (fact_of facts id) || is_some (stored_of id_of tests id)
