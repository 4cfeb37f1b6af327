-- Rule sets whose programs decide each call after few instructions.
use Rattle.std.specs.Prelude.{◌≡◌, ℕ, ◌≤◌, ◌⊎◌, List, [], ◌∷◌, length}
use Rattle.std.specs.List.{All}
use Rattle.call_rules.specs.Tested.{Tested}
use Rattle.call_rules.specs.declared.rules.Case.{Case}
use Rattle.call_rules.specs.declared.rules.CallRule.{CallRule}
use Rattle.call_rules.specs.declared.rules.RuleSet.{RuleSet}

-- all of the low 32 bits of the argument are the value
abbrev pub whole : ℕ → ℕ → Tested
whole at value = record { arg = at; mask = 0xffff_ffff; value = value }

-- each case has one test, of all of the low 32 bits of this argument
abbrev pub AreWhole : ℕ → List Case → Type 0
AreWhole at cases = All (λ case. (value : ℕ) × (case.tests ≡ whole at value ∷ [])) cases

-- few cases, or one value of one argument for each
abbrev pub HasShortCases : CallRule → Type 0
HasShortCases call = (length call.cases ≤ 8) ⊎ ((at : ℕ) × AreWhole at call.cases)

-- each call has
abbrev pub HaveShortCases : RuleSet → Type 0
HaveShortCases rules = All HasShortCases rules.calls
