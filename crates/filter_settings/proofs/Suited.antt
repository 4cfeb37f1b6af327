-- The choices for names suit a filter: they do what the settings say, they are small, and only few names have a rule.
use Rattle.std.proofs.Common.{◌≡◌, ℕ, ◌+◌, ◌*◌, ◌≤◌, Option, Some, None, List, [], ◌∷◌, length, map, refl, sym, arith, subst, inl, inr}
use Rattle.std.specs.Prelude.{◌⊎◌}
use Rattle.std.specs.Option.{option_map, option_to_list, IfSome}
use Rattle.std.specs.List.{All, AllByRecursion, cons_option, sum_by}
use Rattle.std.proofs.lemmas.List.{length-map}
use Rattle.std.proofs.lemmas.List.Sums.{sum_by-le}
use Rattle.std.proofs.lemmas.List.Elements.{All-from_recursion}
use Rattle.std.proofs.Math.Nat.{mul-le-mul, le_trans, le_refl}
use Rattle.call_rules.specs.declared.actions.Action.{Action}
use Rattle.call_rules.specs.Tested.{Tested}
use Rattle.call_rules.specs.declared.rules.CallRule.{CallRule}
use Rattle.call_table.specs.declared.listed.CallLine.{CallLine}
use Rattle.filter_settings.specs.declared.filter_rules.choice.Choice.{Choice}
use Rattle.filter_settings.specs.filter_rules.Choices.{case_with, rule_with, whole}
use Rattle.call_rules.specs.Sizes.{HaveFewTests, wide_len}
use Rattle.filter_settings.specs.filter_rules.Costs.{HasShortCases, AreWhole}
use Rattle.filter_settings.proofs.Walked.{rules_of}

-- all tests compare the whole of the same argument
pub record IsWhole (choice : Choice) : Type 0 where
  pub alone : choice.given ≡ None
  pub at : ℕ
  pub values : List ℕ
  pub are : choice.any ≡ map (whole at) values

-- so many cases at most, each with so many tests at most, and so many wide arguments at most
pub record IsSmall (cases tests wides : ℕ) (choice : Choice) : Type 0 where
  pub cases_fit : length choice.any ≤ cases
  pub tests_fit : length (option_to_list choice.given) + 1 ≤ tests
  pub wide_fits : wide_len choice.wide ≤ wides
  pub short : (length choice.any ≤ 8) ⊎ IsWhole choice

abbrev pub AreSmall : ℕ → ℕ → ℕ → (List ℕ → Option Choice) → Type 0
AreSmall cases tests wides choose = (name : List ℕ) → IfSome (choose name) (IsSmall cases tests wides)

-- what holds of the rule of each small choice holds of all rules
each : (P : CallRule → Type 0) (cases tests wides : ℕ) (choose : List ℕ → Option Choice) → AreSmall cases tests wides choose
    → ((number : ℕ) (choice : Choice) → IsSmall cases tests wides choice → P (rule_with number choice)) →
    (calls : List CallLine) → AllByRecursion P (rules_of choose calls)
each P cases tests wides choose small h [] = tt
each P cases tests wides choose small h (call ∷ calls) = one (choose call.name) (small call.name) (each P cases tests wides choose small h calls)
  where
    one : (o : Option Choice) → IfSome o (IsSmall cases tests wides) → AllByRecursion P (rules_of choose calls)
        → AllByRecursion P (cons_option (option_map (rule_with call.number) o) (rules_of choose calls))
    one None s rest = rest
    one (Some choice) s rest = (h call.number choice s, rest)

pub all_rules : (P : CallRule → Type 0) (cases tests wides : ℕ) (choose : List ℕ → Option Choice) → AreSmall cases tests wides choose
    → ((number : ℕ) (choice : Choice) → IsSmall cases tests wides choice → P (rule_with number choice)) →
    (calls : List CallLine) → All P (rules_of choose calls)
all_rules P cases tests wides choose small h calls = All-from_recursion P (rules_of choose calls) (each P cases tests wides choose small h calls)

-- the number of tests of a case
length_case : (given : Option Tested) (action : Action) (test : Tested)
    → length ((case_with given action test).tests) ≡ length (option_to_list given) + 1
length_case None action test = refl
length_case (Some first) action test = refl

each_case : (most : ℕ) (given : Option Tested) (action : Action) (tests : List Tested) → length (option_to_list given) + 1 ≤ most
    → AllByRecursion (λ case. length case.tests ≤ most) (map (case_with given action) tests)
each_case most given action [] h = tt
each_case most given action (test ∷ tests) h =
    (subst (λ n. n ≤ most) (sym (length_case given action test)) h, each_case most given action tests h)

cases_few : (most number : ℕ) (choice : Choice) → length (option_to_list choice.given) + 1 ≤ most
    → All (λ case. length case.tests ≤ most) ((rule_with number choice).cases)
cases_few most number choice h = All-from_recursion (λ case. length case.tests ≤ most)
    (map (case_with choice.given choice.action) choice.any) (each_case most choice.given choice.action choice.any h)

pub few_tests : (cases tests wides : ℕ) → tests ≤ 2 → (number : ℕ) (choice : Choice) → IsSmall cases tests wides choice
    → HaveFewTests ((rule_with number choice).cases)
few_tests cases tests wides two number choice s = cases_few 2 number choice (omega (arith, s.tests_fit))

-- the wide argument of a rule, if it has one
pub wide_bound : (cases tests wides : ℕ) (number : ℕ) (choice : Choice) → IsSmall cases tests wides choice
    → wide_len ((rule_with number choice).wide) ≤ wides
wide_bound cases tests wides number choice s = s.wide_fits

-- the cases of a rule, and the tests of all its cases
pub case_bound : (cases tests wides : ℕ) (number : ℕ) (choice : Choice) → IsSmall cases tests wides choice
    → length ((rule_with number choice).cases) ≤ cases
case_bound cases tests wides number choice s = subst (λ n. n ≤ cases)
    (sym (length-map choice.any (case_with choice.given choice.action))) s.cases_fit

pub test_bound : (cases tests wides : ℕ) (number : ℕ) (choice : Choice) → IsSmall cases tests wides choice
    → sum_by (λ case. length case.tests) ((rule_with number choice).cases) ≤ cases * tests
test_bound cases tests wides number choice s =
    let each_fits = sum_by-le (λ case. length case.tests) tests ((rule_with number choice).cases) (cases_few tests number choice s.tests_fit) in
    le_trans each_fits (mul-le-mul (case_bound cases tests wides number choice s) (le_refl tests))

whole_cases : (at : ℕ) (action : Action) (values : List ℕ) → AllByRecursion (λ case. (value : ℕ) × (case.tests ≡ whole at value ∷ []))
    (map (case_with None action) (map (whole at) values))
whole_cases at action [] = tt
whole_cases at action (value ∷ values) = ((value, refl), whole_cases at action values)

pub short_cases : (cases tests wides : ℕ) (number : ℕ) (choice : Choice) → IsSmall cases tests wides choice → HasShortCases (rule_with number choice)
short_cases cases tests wides number choice s = by s.short
  where
    by : (length choice.any ≤ 8) ⊎ IsWhole choice → HasShortCases (rule_with number choice)
    by (inl few) = inl (subst (λ n. n ≤ 8) (sym (length-map choice.any (case_with choice.given choice.action))) few)
    by (inr w) =
        inr (
          w.at,
          subst (λ given. AreWhole w.at (map (case_with given choice.action) choice.any)) (sym w.alone)
              (subst (λ tests. AreWhole w.at (map (case_with None choice.action) tests)) (sym w.are)
              (All-from_recursion (λ case. (value : ℕ) × (case.tests ≡ whole w.at value ∷ []))
              (map (case_with None choice.action) (map (whole w.at) w.values)) (whole_cases w.at choice.action w.values))),
        )
