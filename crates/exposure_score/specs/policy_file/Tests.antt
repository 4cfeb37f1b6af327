-- A test from a member of a policy: its weight and its range. The tree is `serde_json`'s.
use Rattle.std.specs.Prelude.{ℕ, ◌&&◌, nat_le, cond, codes, List, Option, Some, None, option_map, option_and_then}
use Rattle.std.specs.Option.{option_map_or}
use Rattle.serde_json.specs.Data.{Data}
use Rattle.serde_json.specs.Find.{get, as_number, as_u64}
use Rattle.exposure_score.specs.declared.policy_file.policy.PolicyTest.{PolicyTest}

-- a whole number, which is written without a fraction or an exponent
abbrev pub as_whole : Data → Option ℕ
as_whole value = option_and_then as_u64 (as_number value)

-- a number from the least up to 1,000,000
abbrev pub within : ℕ → ℕ → Option ℕ
within least number = cond (nat_le least number && nat_le number 1000000) (Some number) None

-- the weight, which must be there
abbrev pub weight_of : Data → Option ℕ
weight_of said = option_and_then (within 0) (option_and_then as_whole (get (codes "weight") said))

-- the range, which is 1 where none is there
abbrev pub range_of : Data → Option ℕ
range_of said = option_map_or (λ found. option_and_then (within 1) (as_whole found)) (get (codes "range") said) (Some 1)

-- the weight and the range, if this is said of a test: an object with a weight, and with a range or none
abbrev pub numbers_of : Data → Option (ℕ × ℕ)
numbers_of said = option_and_then (λ weight. option_map (λ range. (weight, range)) (range_of said)) (weight_of said)

-- the test of this identifier
abbrev pub test_of : List ℕ → Data → Option PolicyTest
test_of id said = option_map (λ numbers. record { id = id; weight = numbers.0; range = numbers.1 }) (numbers_of said)
