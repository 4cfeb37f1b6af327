-- Which policy bytes are, or why they are refused.
use Rattle.std.specs.Prelude.{ℕ, nat_lt, Bool, true, false, cond, is_none, List, [], ◌∷◌, length, map, find, Option, Some, None, option_map}
use Rattle.std.specs.Prelude.{option_and_then, Result, Ok, Err}
use Rattle.std.specs.List.{filter_map}
use Rattle.std.specs.Str.{is_utf8}
use Rattle.serde_json.specs.Data.{Data, Members, no_members, member}
use Rattle.serde_json.specs.Find.{as_object}
use Rattle.serde_json.specs.Read.{read}
use Rattle.exposure_score.specs.declared.policy_file.policy.PolicyTest.{PolicyTest}
use Rattle.exposure_score.specs.declared.policy_file.error.PolicyError.{PolicyError}
use Rattle.exposure_score.specs.declared.policy_file.error.PolicyError.TheVariants.{NotJson, Field, TooMany}
use Rattle.exposure_score.specs.policy_file.Tests.{test_of}

-- a member of an object: its name and its value
abbrev pub Member : Type 0
Member = List ℕ × Data

-- the members of an object, in the order of the tree, which is byte order of their names
abbrev pub members_of : Members → List Member
members_of no_members = []
members_of (member name value members) = (name, value) ∷ members_of members

-- the names of an object's members
abbrev pub names_of : Members → List (List ℕ)
names_of members = map (λ one. one.0) (members_of members)

-- the test that a member is
abbrev pub test_in : Member → Option PolicyTest
test_in one = test_of one.0 one.1

-- the name of the first member that is no test
abbrev pub first_fault : List Member → Option (List ℕ)
first_fault members = option_map (λ one. one.0) (find (λ one. is_none (test_in one)) members)

abbrev pub tests_of : List Member → List PolicyTest
tests_of members = filter_map test_in members

-- the first that is wrong, or the tests: a member, and then that there are too many
abbrev pub unless_fault : Option (List ℕ) → Bool → List PolicyTest → Result (List PolicyTest) PolicyError
unless_fault (Some id) many tests = Err (Field id)
unless_fault None true tests = Err TooMany
unless_fault None false tests = Ok tests

-- the policy of the members of an object
abbrev pub policy_in : List Member → Result (List PolicyTest) PolicyError
policy_in members = unless_fault (first_fault members) (nat_lt 512 (length members)) (tests_of members)

abbrev pub policy_of_object : Option Members → Result (List PolicyTest) PolicyError
policy_of_object None = Err NotJson
policy_of_object (Some members) = policy_in (members_of members)

-- the tree that `serde_json` reads from UTF-8
abbrev pub tree_of : List ℕ → Option Data
tree_of bytes = cond (is_utf8 bytes) (read bytes) None

-- the object that the bytes are
abbrev pub object_of : List ℕ → Option Members
object_of bytes = option_and_then as_object (tree_of bytes)

-- the policy that the bytes are, or the first thing that is wrong with them
abbrev pub policy_of : List ℕ → Result (List PolicyTest) PolicyError
policy_of bytes = policy_of_object (object_of bytes)
