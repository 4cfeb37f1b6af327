-- What the parts of the reader answer.
use Rattle.std.specs.Prelude.{◌≡◌, ⊤, ℕ, List, Some, None, Result, Ok, Err, Vec}
use Rattle.std.specs.declared.alloc.Global.{Global}
use Rattle.serde_json.specs.Data.{Data}
use Rattle.exposure_score.specs.declared.policy_file.policy.PolicyTest.{PolicyTest}
use Rattle.exposure_score.specs.declared.policy_file.error.PolicyError.{PolicyError}
use Rattle.exposure_score.specs.declared.policy_file.error.PolicyError.TheVariants.{NotJson, Field, TooMany, Memory}
use Rattle.exposure_score.specs.policy_file.Tests.{test_of}
use Rattle.exposure_score.specs.policy_file.Reading.{Member, first_fault, tests_of}

-- a member is this test, or none and told as such, or memory ran out
abbrev pub SaysTest : List ℕ → Data → Result PolicyTest PolicyError → Type 0
SaysTest id said (Ok test) = test_of id said ≡ Some test
SaysTest id said (Err (Field told)) = (test_of id said ≡ None) × (told ≡ id)
SaysTest id said (Err Memory) = ⊤
SaysTest id said (Err NotJson) = ⊥
SaysTest id said (Err TooMany) = ⊥

-- the members are these tests, or the first member that is not a test is named, or memory ran out
abbrev pub SaysTests : List Member → Result (Vec PolicyTest Global) PolicyError → Type 0
SaysTests members (Ok tests) = (first_fault members ≡ None) × (tests.items ≡ tests_of members)
SaysTests members (Err (Field told)) = first_fault members ≡ Some told
SaysTests members (Err Memory) = ⊤
SaysTests members (Err NotJson) = ⊥
SaysTests members (Err TooMany) = ⊥

-- the answer is this one, unless memory ran out
abbrev pub IsUnlessMemory : Result (List PolicyTest) PolicyError → Result (List PolicyTest) PolicyError → Type 0
IsUnlessMemory (Ok tests) wanted = wanted ≡ Ok tests
IsUnlessMemory (Err Memory) wanted = ⊤
IsUnlessMemory (Err NotJson) wanted = wanted ≡ Err NotJson
IsUnlessMemory (Err (Field id)) wanted = wanted ≡ Err (Field id)
IsUnlessMemory (Err TooMany) wanted = wanted ≡ Err TooMany
