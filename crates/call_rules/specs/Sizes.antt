-- How large a rule set is, and how large one may be that is made a program.
use Rattle.std.specs.Prelude.{ℕ, ◌+◌, ◌*◌, ◌≤◌, List, length, sum_by, Option, None, Some}
use Rattle.std.specs.List.{All}
use Rattle.call_rules.specs.Widened.{Widened}
use Rattle.call_rules.specs.declared.rules.Case.{Case}
use Rattle.call_rules.specs.declared.rules.RuleSet.{RuleSet}

-- how many cases all calls have together
abbrev pub case_count : RuleSet → ℕ
case_count rules = sum_by (λ call. length call.cases) rules.calls

-- how many tests all cases have together
abbrev pub test_count : RuleSet → ℕ
test_count rules = sum_by (λ call. sum_by (λ case. length case.tests) call.cases) rules.calls

-- a rule looks at the high 32 bits of one argument, or of none
abbrev pub wide_len : Option Widened → ℕ
wide_len None = 0
wide_len (Some wide) = 1

-- how many calls have a rule that does
abbrev pub wide_count : RuleSet → ℕ
wide_count rules = sum_by (λ call. wide_len call.wide) rules.calls

-- each case has at most 2 tests
abbrev pub HaveFewTests : List Case → Type 0
HaveFewTests cases = All (λ case. length case.tests ≤ 2) cases

-- the rule sets that are made programs: at most 512 calls, at most 128 cases over all calls together, at most 2 tests a case, and at
-- most 16 calls that look at the high 32 bits of an argument
pub record CanCompile (rules : RuleSet) : Type 0 where
  pub calls : length rules.calls ≤ 512
  pub cases : case_count rules ≤ 128
  pub tests : All (λ call. HaveFewTests call.cases) rules.calls
  pub wides : wide_count rules ≤ 16

-- as many instructions as a program of the rules may have
abbrev pub most_insns : RuleSet → ℕ
most_insns rules = 16 + 5 * length rules.calls + 2 * case_count rules + 4 * test_count rules + 3 * wide_count rules
