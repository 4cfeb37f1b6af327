-- A rule does what is chosen for its call.
use Rattle.std.proofs.Common.{◌≡◌, ℕ, Bool, true, false, cond, Option, Some, None, List, [], ◌∷◌, map, find, refl, ap, ◌∙◌}
use Rattle.std.specs.Prelude.{◌&&◌, ◌||◌}
use Rattle.std.specs.Option.{option_map_or}
use Rattle.std.specs.List.{list_any}
use Rattle.call_rules.specs.bpf_code.declared.machine.CallData.{CallData}
use Rattle.call_rules.specs.declared.actions.Action.{Action}
use Rattle.call_rules.specs.Tested.{Tested}
use Rattle.call_rules.specs.declared.rules.Case.{Case}
use Rattle.call_rules.specs.Action.{test_holds, case_holds, unless_wide, call_action}
use Rattle.filter_settings.specs.declared.filter_rules.choice.Choice.{Choice}
use Rattle.filter_settings.specs.filter_rules.Choices.{case_with, rule_with, choice_action}

-- the given test holds, if there is one
abbrev given_holds : CallData → Option Tested → Bool
given_holds input given = option_map_or (test_holds input) given true

and_true : (b : Bool) → (b && true) ≡ b
and_true true = refl
and_true false = refl

case_given : (input : CallData) (given : Option Tested) (action : Action) (test : Tested)
    → case_holds input (case_with given action test) ≡ (given_holds input given && test_holds input test)
case_given input None action test = and_true (test_holds input test)
case_given input (Some first) action test = ap (λ b. test_holds input first && b) (and_true (test_holds input test))

pushed : (b : Bool) (case : Case) (o : Option Case) (rest : Action) → option_map_or (λ case. case.action) (cond b (Some case) o) rest ≡ cond b case.action (option_map_or (λ case. case.action) o rest)
pushed true case o rest = refl
pushed false case o rest = refl

-- one more test before the others
step : (given test any : Bool) (action rest tail : Action) → tail ≡ cond (given && any) action rest
    → cond (given && test) action tail ≡ cond (given && (test || any)) action rest
step true true any action rest tail h = refl
step true false any action rest tail h = h
step false test any action rest tail h = h

nothing : (given : Bool) (action rest : Action) → rest ≡ cond (given && false) action rest
nothing true action rest = refl
nothing false action rest = refl

first_passing : (input : CallData) (given : Option Tested) (action rest : Action) (tests : List Tested) →
    option_map_or (λ case. case.action) (find (case_holds input) (map (case_with given action) tests)) rest
    ≡ cond (given_holds input given && list_any (test_holds input) tests) action rest
first_passing input given action rest [] = nothing (given_holds input given) action rest
first_passing input given action rest (test ∷ tests) =
    let others : Option Case = find (case_holds input) (map (case_with given action) tests) in
    pushed (case_holds input (case_with given action test)) (case_with given action test) others rest
    ∙ ap (λ b. cond b action (option_map_or (λ case. case.action) others rest)) (case_given input given action test)
    ∙ step (given_holds input given) (test_holds input test) (list_any (test_holds input) tests) action rest
    (option_map_or (λ case. case.action) others rest) (first_passing input given action rest tests)

pub rule_chooses : (input : CallData) (number : ℕ) (choice : Choice)
    → call_action input (rule_with number choice) ≡ choice_action input choice
rule_chooses input number choice =
    ap (unless_wide input choice.wide) (first_passing input choice.given choice.action choice.rest choice.any)
