-- The greatest size of the rules of a filter.
use Rattle.std.specs.Prelude.{◌≡◌, ℕ, ◌+◌, ◌≤◌, ◌⊎◌, List, [], ◌∷◌, length, sum_by}
use Rattle.std.specs.List.{All}
use Rattle.call_rules.specs.declared.rules.Case.{Case}
use Rattle.call_rules.specs.declared.rules.CallRule.{CallRule}
use Rattle.call_rules.specs.declared.rules.RuleSet.{RuleSet}
use Rattle.call_rules.specs.Sizes.{case_count, test_count, wide_count, most_insns}
use Rattle.filter_settings.specs.filter_rules.Choices.{whole}
use Rattle.filter_settings.specs.declared.filter_rules.installed.Filter.{Filter}
use Rattle.filter_settings.specs.declared.filter_rules.names.FilterName.{FilterName}
use Rattle.filter_settings.specs.declared.filter_rules.names.FilterName.TheVariants.{Families, MemoryDenyWriteExecute, Realtime, Suid}
use Rattle.filter_settings.specs.declared.filter_rules.names.FilterName.TheVariants.{Namespaces, Tunables, Hostname, Modules, Logs, Clock, Devices}
use Rattle.filter_settings.specs.declared.filter_rules.names.FilterName.TheVariants.{Personality, Calls, Archs}

-- calls with a rule, cases over all of them, tests over all cases, and calls whose rule looks at the high 32 bits of an argument
pub record Costs : Type 0 where
  pub calls : ℕ
  pub cases : ℕ
  pub tests : ℕ
  pub wides : ℕ

abbrev pub costs : ℕ → ℕ → ℕ → ℕ → Costs
costs calls cases tests wides = record { calls = calls; cases = cases; tests = tests; wides = wides }

-- the greatest costs of the rules of a filter: a table has at most 512 calls and 128 families
abbrev pub most_costs : FilterName → Costs
most_costs Families = costs 1 128 128 1
most_costs MemoryDenyWriteExecute = costs 4 4 4 0
most_costs Realtime = costs 1 3 3 1
most_costs Suid = costs 12 24 48 0
most_costs Namespaces = costs 4 32 32 0
most_costs Tunables = costs 1 0 0 0
most_costs Hostname = costs 2 0 0 0
most_costs Modules = costs 512 0 0 0
most_costs Logs = costs 1 0 0 0
most_costs Clock = costs 512 0 0 0
most_costs Devices = costs 512 0 0 0
most_costs Personality = costs 1 2 2 1
most_costs Calls = costs 512 0 0 0
most_costs Archs = costs 0 0 0 0

pub record KeepsWithin (most : Costs) (rules : RuleSet) : Type 0 where
  pub calls : length rules.calls ≤ most.calls
  pub cases : case_count rules ≤ most.cases
  pub tests : test_count rules ≤ most.tests
  pub wides : wide_count rules ≤ most.wides

-- the room that programs of these filters take at most in a stack: 4 for each, besides its instructions (seccomp(2), ENOMEM)
abbrev pub most_room : List Filter → ℕ
most_room filters = sum_by (λ made. most_insns made.rules + 4) filters

-- each case has one test, which compares all low 32 bits of this argument
abbrev pub AreWhole : ℕ → List Case → Type 0
AreWhole at cases = All (λ case. (value : ℕ) × (case.tests ≡ whole at value ∷ [])) cases

-- the call has few cases, or each case tests one value of the same argument
abbrev pub HasShortCases : CallRule → Type 0
HasShortCases call = (length call.cases ≤ 8) ⊎ ((at : ℕ) × AreWhole at call.cases)
