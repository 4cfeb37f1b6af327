-- A policy in the words of its object, whatever the order of the object's members.
use Rattle.std.specs.Prelude.{◌≡◌, ℕ, List, Some, None}
use Rattle.std.specs.declared.cmp.Ordering.TheVariants.{Less}
use Rattle.std.specs.Ordering.{nat_cmp}
use Rattle.std.specs.Cmp.Lexicographic.{slice_cmp}
use Rattle.std.specs.List.{Contains, AllByRecursion}
use Rattle.serde_json.specs.Data.{Data, Members}
use Rattle.serde_json.specs.Find.{get_member}
use Rattle.exposure_score.specs.declared.policy_file.policy.PolicyTest.{PolicyTest}
use Rattle.exposure_score.specs.policy_file.Tests.{test_of}

-- what the object says of the test's identifier is this test
pub record IsSaid (members : Members) (test : PolicyTest) : Type 0 where
  pub said : Data
  pub stands : get_member test.id members ≡ Some said
  pub says : test_of test.id said ≡ Some test

-- the tests are those that the members say: each member says one of them, and each of them is said
pub record AreExactly (members : Members) (tests : List PolicyTest) : Type 0 where
  pub each_member : (id : List ℕ) (said : Data) → get_member id members ≡ Some said
      → (test : PolicyTest) × (test_of id said ≡ Some test) × Contains tests test
  pub each_test : AllByRecursion (IsSaid members) tests

-- the member of this name is no test, and those whose names come before it in byte order are tests
pub record IsFirstFault (members : Members) (id : List ℕ) : Type 0 where
  pub said : Data
  pub stands : get_member id members ≡ Some said
  pub says_none : test_of id said ≡ None
  pub earlier : (other : List ℕ) (value : Data) → slice_cmp nat_cmp other id ≡ Less → get_member other members ≡ Some value
      → (test : PolicyTest) × (test_of other value ≡ Some test)
