-- What holds of each policy.
use Rattle.std.specs.Prelude.{ℕ, ◌≤◌, List, map, length}
use Rattle.std.specs.Ordering.{nat_cmp}
use Rattle.std.specs.Cmp.Lexicographic.{slice_cmp}
use Rattle.std.specs.List.{AllByRecursion}
use Rattle.std.specs.List.Sorted.{IsStrictlySortedBy}
use Rattle.exposure_score.specs.declared.policy_file.policy.PolicyTest.{PolicyTest}

-- texts in byte order, of which no two are equal
abbrev pub AreAscending : List (List ℕ) → Type 0
AreAscending texts = IsStrictlySortedBy (slice_cmp nat_cmp) texts

-- what holds of each test
pub record IsTest (test : PolicyTest) : Type 0 where
  pub weight : test.weight ≤ 1000000
  pub least_range : 1 ≤ test.range
  pub range : test.range ≤ 1000000

-- what holds of the tests of a policy
pub record IsPolicy (tests : List PolicyTest) : Type 0 where
  pub ascending : AreAscending (map (λ test. test.id) tests)
  pub few : length tests ≤ 512
  pub each_test : AllByRecursion IsTest tests
