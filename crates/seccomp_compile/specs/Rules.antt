-- The decisions that rules become.
use Rattle.std.specs.Prelude.{◌≡◌, ℕ, ◌+◌, ◌*◌, ◌^◌, ◌<◌, ◌≤◌, ◌==◌, ◌&&◌, Bool, true, false, find, List, [], ◌∷◌, length, Option, Some}
use Rattle.std.specs.Prelude.{None, sum_by}
use Rattle.std.specs.Option.{option_map_or}
use Rattle.std.specs.List.{All, list_all, list_any}
use Rattle.call_rules.specs.bpf_code.declared.machine.CallData.{CallData}
use Rattle.call_rules.specs.Tested.{Tested}
use Rattle.call_rules.specs.Widened.{Widened}
use Rattle.call_rules.specs.declared.actions.Action.{Action}
use Rattle.call_rules.specs.Action.{first_action, call_action, case_action}
use Rattle.call_rules.specs.Sizes.{wide_len, most_insns}
use Rattle.call_rules.specs.declared.rules.Case.{Case}
use Rattle.call_rules.specs.declared.rules.CallRule.{CallRule}
use Rattle.call_rules.specs.declared.rules.RuleSet.{RuleSet}
use Rattle.seccomp_compile.specs.declared.tree.Comparison.TheVariants.{Equal}
use Rattle.seccomp_compile.specs.Code.{arg_offset, high_offset, whole_word}
use Rattle.seccomp_compile.specs.Looks.{mask_of, comparison_of}
use Rattle.seccomp_compile.specs.Compiled.{longest_path}
use Rattle.seccomp_compile.specs.ShortCases.{HasShortCases, HaveShortCases}
use Rattle.seccomp_compile.specs.Decisions.{Decision, ends, looks, splits, both, decide, past_look, is_end, LooksInside}
use Rattle.seccomp_compile.specs.Lengths.{most_of, PathWithin}

-- the wanted action for a call's data, when this word is loaded
abbrev pub Wanted : Type 0
Wanted = CallData → ℕ → Action

-- the decision gives the wanted action for each word from one number on that is below the other
abbrev pub DecidesFrom : Wanted → ℕ → ℕ → Decision → Type 0
DecidesFrom wanted from to decision =
    (input : CallData) (word : ℕ) → from ≤ word → word < to → decide decision input word ≡ wanted input word

-- the wanted action for a number: the action of the call with this number, or else the default
abbrev pub number_wanted : List CallRule → Action → Wanted
number_wanted calls rest input word = option_map_or (call_action input) (find (λ call. call.number == word) calls) rest

-- the action if the test holds; the following decision does not load the same word again
abbrev pub one_test : Tested → Action → Decision → Decision
one_test test action otherwise =
    let behind = past_look (arg_offset test.arg) (mask_of test) otherwise in
    looks (arg_offset test.arg) (mask_of test) (splits (comparison_of test) test.value behind (ends action))

-- the action where the tests hold, of which there are at most two
abbrev pub by_tests : List Tested → Action → Decision → Decision
by_tests [] action otherwise = ends action
by_tests (test ∷ []) action otherwise = one_test test action otherwise
by_tests (first ∷ second ∷ tests) action otherwise = both first second action otherwise

-- the cases in turn
abbrev pub cases_onto : List Case → Decision → Decision
cases_onto [] otherwise = otherwise
cases_onto (case ∷ cases) otherwise = by_tests case.tests case.action (cases_onto cases otherwise)

-- the action of a wide argument, which has a high word that is not 0; a narrow one continues
abbrev pub past_wide : Widened → Decision → Decision
past_wide wide narrow = looks (high_offset wide.arg) whole_word (splits Equal 0 (ends wide.action) narrow)

-- the value that the first test compares
abbrev pub first_value : List Tested → ℕ
first_value [] = 0
first_value (test ∷ tests) = test.value

abbrev pub value_in : Case → ℕ
value_in case = first_value case.tests

-- the values in turn
abbrev pub values_onto : List Case → Decision → Decision
values_onto [] otherwise = otherwise
values_onto (case ∷ cases) otherwise = splits Equal (value_in case) (values_onto cases otherwise) (ends case.action)

-- the action of the first case with the value
abbrev pub value_wanted : List Case → Action → ℕ → Action
value_wanted cases rest word = option_map_or (λ case. case.action) (find (λ case. value_in case == word) cases) rest

-- each number is in both lists or in neither
abbrev pub HaveSameMembers : List ℕ → List ℕ → Type 0
HaveSameMembers numbers others = (n : ℕ) → list_any (λ m. n == m) numbers ≡ list_any (λ m. n == m) others

-- one test of this argument with all bits of its low word
abbrev pub is_value_test : ℕ → Tested → Bool
is_value_test arg test = (test.arg == arg) && (test.mask == whole_word)

abbrev pub is_value_of_tests : ℕ → List Tested → Bool
is_value_of_tests arg [] = false
is_value_of_tests arg (test ∷ tests) = (length tests == 0) && is_value_test arg test

abbrev pub is_value_of : ℕ → Case → Bool
is_value_of arg case = is_value_of_tests arg case.tests

-- each case is one test of this argument with all bits of its low word
abbrev pub AreValuesOf : ℕ → List Case → Type 0
AreValuesOf arg cases = list_all (is_value_of arg) cases ≡ true

abbrev pub arg_of_tests : List Tested → Option ℕ
arg_of_tests [] = None
arg_of_tests (test ∷ tests) = Some test.arg

abbrev pub first_arg : List Case → Option ℕ
first_arg [] = None
first_arg (case ∷ cases) = arg_of_tests case.tests

-- the instructions that the cases of a call may have
abbrev pub weight_of : CallRule → ℕ
weight_of call = 2 * length call.cases + 4 * sum_by (λ case. length case.tests) call.cases

-- how many of the calls have a rule that looks at the high 32 bits of an argument
abbrev pub wides_in : List CallRule → ℕ
wides_in calls = sum_by (λ call. wide_len call.wide) calls

-- a decision of the values of an argument
pub record DecidesValues (cases : List Case) (rest : Action) (decision : Decision) : Type 0 where
  pub decides : DecidesFrom (λ input word. value_wanted cases rest word) 0 (2 ^ 32) decision
  pub most : 0 < length cases → 9 * most_of decision + 18 ≤ 9 + 8 * (6 * length cases)
  pub path : length cases ≤ 128 → PathWithin 21 decision
  pub inside : LooksInside decision

-- a decision of the cases of a call, whatever word is looked at
pub record DecidesCases (call : CallRule) (decision : Decision) : Type 0 where
  pub decides : (input : CallData) (word : ℕ) → decide decision input word ≡ first_action input call
  pub most : 9 * most_of decision ≤ 9 + 8 * weight_of call
  pub path : HasShortCases call → PathWithin 50 decision
  pub inside : LooksInside decision

-- a decision of a call
pub record DecidesCall (call : CallRule) (decision : Decision) : Type 0 where
  pub decides : (input : CallData) (word : ℕ) → decide decision input word ≡ call_action input call
  pub most : 9 * most_of decision ≤ 9 + 8 * weight_of call + 27 * wide_len call.wide
  pub path : HasShortCases call → PathWithin 55 decision
  pub inside : LooksInside decision

-- a decision of the numbers of calls
pub record DecidesNumbers (calls : List CallRule) (rest : Action) (decision : Decision) : Type 0 where
  pub decides : DecidesFrom (number_wanted calls rest) 0 (2 ^ 32) decision
  pub most : 8 * most_of decision ≤ 8 * (5 * length calls + sum_by weight_of calls + 1) + 27 * wides_in calls
  pub path : All HasShortCases calls → length calls ≤ 512 → PathWithin 79 decision
  pub inside : LooksInside decision

-- a decision of the rules
pub record DecidesRules (rules : RuleSet) (decision : Decision) : Type 0 where
  pub tree : is_end decision ≡ false
  pub decides : (input : CallData) (word : ℕ) → input.nr < 2 ^ 32 → decide decision input word ≡ case_action rules input
  pub most : most_of decision ≤ most_insns rules
  pub path : HaveShortCases rules → PathWithin longest_path decision
  pub inside : LooksInside decision
