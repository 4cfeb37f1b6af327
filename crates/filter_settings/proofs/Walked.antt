-- Rules made by walking calls in the order of their numbers: the numbers ascend, and a number finds its rule.
use Rattle.std.proofs.Common.{◌≡◌, ℕ, Bool, true, false, cond, eqb, Option, Some, None, List, [], ◌∷◌, map, find, refl, sym, ap, ◌∙◌, arith}
use Rattle.std.proofs.Common.{subst}
use Rattle.std.specs.Option.{option_map, option_map_or}
use Rattle.std.specs.Prelude.{option_and_then, nat_lt}
use Rattle.std.specs.List.{filter_map, cons_option, AllByRecursion, Contains}
use Rattle.std.specs.List.Sorted.{IsStrictlyIncreasing, IsStrictlySortedBy}
use Rattle.std.specs.Ordering.{nat_cmp}
use Rattle.std.specs.declared.cmp.Ordering.TheVariants.{Less, Equal, Greater}
use Rattle.std.proofs.lemmas.Bool.{eqb-true, eq-eqb}
use Rattle.std.proofs.lemmas.Bool.Decides.{nat_tests}
use Rattle.std.proofs.lemmas.List.Elements.{All-from_recursion, recursion_from_All, All-contains, All-contains_itself}
use Rattle.std.proofs.lemmas.List.Sorted.{All-permutation, Contains-permutation}
use Rattle.std.proofs.lemmas.Map.Keys.{IsStrictlyIncreasing-from_sorted, sorted_from_strictly_increasing}
use Rattle.call_rules.specs.bpf_code.declared.machine.CallData.{CallData}
use Rattle.call_rules.specs.declared.rules.CallRule.{CallRule}
use Rattle.call_rules.specs.declared.actions.Action.{Action}
use Rattle.call_rules.specs.Action.{case_action, call_action as rule_action}
use Rattle.call_table.specs.declared.listed.CallLine.{CallLine}
use Rattle.call_table.specs.Lookups.{has_number, numbered}
use Rattle.filter_settings.specs.declared.filter_rules.choice.Choice.{Choice}
use Rattle.filter_settings.specs.filter_rules.Choices.{rule_with, choice_action}
use Rattle.filter_settings.specs.filter_rules.Order.{Ascends}
use Rattle.filter_settings.proofs.Chosen.{rule_chooses}

abbrev pub numbers : List CallLine → List ℕ
numbers calls = map (λ call. call.number) calls

abbrev pub rule_numbers : List CallRule → List ℕ
rule_numbers rules = map (λ rule. rule.number) rules

-- the rule of a call, by the choice for its name
abbrev pub rule_at : (List ℕ → Option Choice) → CallLine → Option CallRule
rule_at choose call = option_map (rule_with call.number) (choose call.name)

abbrev pub rules_of : (List ℕ → Option Choice) → List CallLine → List CallRule
rules_of choose calls = filter_map (rule_at choose) calls

-- if all numbers have a property, so have the numbers with a rule
kept : (P : ℕ → Type 0) (choose : List ℕ → Option Choice) (calls : List CallLine) → AllByRecursion P (numbers calls)
    → AllByRecursion P (rule_numbers (rules_of choose calls))
kept P choose [] h = tt
kept P choose (call ∷ calls) h =
    elim (choose call.name) as
    (λ o. AllByRecursion P (rule_numbers (cons_option (option_map (rule_with call.number) o) (rules_of choose calls))))
    [ None ↦ kept P choose calls h.1 | Some choice ↦ (h.0, kept P choose calls h.1) ]

sorted : (choose : List ℕ → Option Choice) (calls : List CallLine) → IsStrictlySortedBy nat_cmp (numbers calls)
    → IsStrictlySortedBy nat_cmp (rule_numbers (rules_of choose calls))
unfolding IsStrictlySortedBy
sorted choose [] h = tt
sorted choose (call ∷ calls) h =
    elim (choose call.name) as
    (λ o. IsStrictlySortedBy nat_cmp (rule_numbers (cons_option (option_map (rule_with call.number) o) (rules_of choose calls))))
    [ None ↦ sorted choose calls h.1 | Some choice ↦ (kept (λ y. nat_cmp call.number y ≡ Less) choose calls h.0, sorted choose calls h.1) ]

pub ascending : (choose : List ℕ → Option Choice) (calls : List CallLine) → IsStrictlyIncreasing (numbers calls)
    → IsStrictlyIncreasing (rule_numbers (rules_of choose calls))
ascending choose calls h = IsStrictlyIncreasing-from_sorted (rule_numbers (rules_of choose calls))
    (sorted choose calls (sorted_from_strictly_increasing (numbers calls) h))

above : (x y n : ℕ) → eqb x n ≡ true → nat_lt x y ≡ true → eqb y n ≡ false
above x y n e lt = grind (arith, nat_tests)

later_differs : (x y n : ℕ) → eqb x n ≡ true → nat_cmp x y ≡ Less → eqb y n ≡ false
later_differs x y n e h =
    elim (nat_lt x y) as (λ t. nat_lt x y ≡ t → cond t Less (cond (eqb x y) Equal Greater) ≡ Less → eqb y n ≡ false) [
      | true ↦ λ lt h. above x y n e lt
      | false ↦ λ ge. elim (eqb x y) as (λ t. cond t Equal Greater ≡ Less → eqb y n ≡ false) [ true ↦ λ h. cc | false ↦ λ h. cc ]
    ]
    refl h

-- no later rule has the number
absent : (x n : ℕ) (choose : List ℕ → Option Choice) (calls : List CallLine) → eqb x n ≡ true
    → AllByRecursion (λ y. nat_cmp x y ≡ Less) (numbers calls) → find (λ rule. eqb rule.number n) (rules_of choose calls) ≡ None
absent x n choose [] e h = refl
absent x n choose (call ∷ calls) e h =
    elim (choose call.name) as
    (λ o. find (λ rule. eqb rule.number n) (cons_option (option_map (rule_with call.number) o) (rules_of choose calls)) ≡ None) [
      | None ↦ absent x n choose calls e h.1
      | Some choice ↦ ap (λ t. cond t (Some (rule_with call.number choice)) (find (λ rule. eqb rule.number n) (rules_of choose calls)))
          (later_differs x call.number n e h.0) ∙ absent x n choose calls e h.1
    ]

found : (n : ℕ) (choose : List ℕ → Option Choice) (calls : List CallLine) → IsStrictlySortedBy nat_cmp (numbers calls)
    → find (λ rule. eqb rule.number n) (rules_of choose calls) ≡ option_and_then (rule_at choose) (find (has_number n) calls)
unfolding IsStrictlySortedBy
found n choose [] h = refl
found n choose (call ∷ calls) h =
    elim (eqb call.number n) as (λ t. eqb call.number n ≡ t → find (λ rule. eqb rule.number n) (rules_of choose (call ∷ calls))
    ≡ option_and_then (rule_at choose) (cond t (Some call) (find (has_number n) calls))) [
      | true ↦ λ e.
          elim (choose call.name) as
          (λ o. find (λ rule. eqb rule.number n) (cons_option (option_map (rule_with call.number) o) (rules_of choose calls))
          ≡ option_map (rule_with call.number) o) [
            | None ↦ absent call.number n choose calls e h.0
            | Some choice ↦ ap (λ t. cond t (Some (rule_with call.number choice))
                (find (λ rule. eqb rule.number n) (rules_of choose calls))) e
          ]
      | false ↦ λ e.
          elim (choose call.name) as
          (λ o. find (λ rule. eqb rule.number n) (cons_option (option_map (rule_with call.number) o) (rules_of choose calls))
          ≡ option_and_then (rule_at choose) (find (has_number n) calls)) [
            | None ↦ found n choose calls h.1
            | Some choice ↦ ap (λ t. cond t (Some (rule_with call.number choice))
                (find (λ rule. eqb rule.number n) (rules_of choose calls))) e ∙ found n choose calls h.1
          ]
    ]
    refl

-- each of these calls is the one that its number finds among them
abbrev IsFoundIn : List CallLine → CallLine → Type 0
IsFoundIn calls call = find (has_number call.number) calls ≡ Some call

behind_another : (first : CallLine) (calls others : List CallLine) → AllByRecursion (λ y. nat_cmp first.number y ≡ Less) (numbers others)
    → AllByRecursion (IsFoundIn calls) others → AllByRecursion (IsFoundIn (first ∷ calls)) others
behind_another first calls [] h k = tt
behind_another first calls (call ∷ others) h k =
    (ap (λ t. cond t (Some first) (find (has_number call.number) calls)) (differs first.number call.number h.0) ∙ k.0, behind_another first calls others h.1 k.1)
  where
    below : (x y : ℕ) → nat_lt x y ≡ true → eqb x y ≡ false
    below x y lt = grind (arith, nat_tests)

    differs : (x y : ℕ) → nat_cmp x y ≡ Less → eqb x y ≡ false
    differs x y less =
        elim (nat_lt x y) as (λ t. nat_lt x y ≡ t → cond t Less (cond (eqb x y) Equal Greater) ≡ Less → eqb x y ≡ false) [
          | true ↦ λ lt less. below x y lt
          | false ↦ λ ge. elim (eqb x y) as (λ t. cond t Equal Greater ≡ Less → eqb x y ≡ false) [ true ↦ λ h. cc | false ↦ λ h. cc ]
        ]
        refl less

each_found : (calls : List CallLine) → IsStrictlySortedBy nat_cmp (numbers calls) → AllByRecursion (IsFoundIn calls) calls
unfolding IsStrictlySortedBy
each_found [] h = tt
each_found (call ∷ calls) h =
    (ap (λ t. cond t (Some call) (find (has_number call.number) calls)) (eq-eqb call.number call.number refl), behind_another call calls calls h.0 (each_found calls h.1))

-- a call that is found is in the list, and passes the test
found_of : (P : CallLine → Type 0) (p : CallLine → Bool) (calls : List CallLine) (call : CallLine) → AllByRecursion P calls
    → find p calls ≡ Some call → P call
found_of P p [] call h e = cc
found_of P p (first ∷ calls) call h e =
    elim (p first) as (λ t. cond t (Some first) (find p calls) ≡ Some call → P call)
    [ true ↦ λ e. let same : first ≡ call = cc in subst P same h.0 | false ↦ λ e. found_of P p calls call h.1 e ] e

found_passes : (p : CallLine → Bool) (calls : List CallLine) (call : CallLine) → find p calls ≡ Some call → p call ≡ true
found_passes p [] call e = cc
found_passes p (first ∷ calls) call e =
    elim (p first) as (λ t. p first ≡ t → cond t (Some first) (find p calls) ≡ Some call → p call ≡ true)
    [ true ↦ λ t e. let same : first ≡ call = cc in ap p (sym same) ∙ t | false ↦ λ t e. found_passes p calls call e ] refl e

none_passes : (p : CallLine → Bool) (calls : List CallLine) → find p calls ≡ None → AllByRecursion (λ call. p call ≡ false) calls
none_passes p [] e = tt
none_passes p (first ∷ calls) e =
    elim (p first) as (λ t. p first ≡ t → cond t (Some first) (find p calls) ≡ None
    → AllByRecursion (λ call. p call ≡ false) (first ∷ calls))
    [ true ↦ λ t e. cc | false ↦ λ t e. (t, none_passes p calls e) ] refl e

finds_none : (p : CallLine → Bool) (calls : List CallLine) → AllByRecursion (λ call. p call ≡ false) calls → find p calls ≡ None
finds_none p [] h = refl
finds_none p (first ∷ calls) h = ap (λ t. cond t (Some first) (find p calls)) h.0 ∙ finds_none p calls h.1

-- a number finds the same call in either order
pub same_found : (calls ordered : List CallLine) (n : ℕ) → Ascends calls ordered → find (has_number n) ordered ≡ numbered n calls
same_found calls ordered n h =
    elim (numbered n calls) as (λ o. numbered n calls ≡ o → find (has_number n) ordered ≡ o) [
      | None ↦ λ e.
          finds_none (has_number n) ordered
          (recursion_from_All (λ call. has_number n call ≡ false) ordered
          (All-permutation (λ call. has_number n call ≡ false) calls ordered h.each_once
          (All-from_recursion (λ call. has_number n call ≡ false) calls (none_passes (has_number n) calls e))))
      | Some call ↦ λ e.
          let within = Contains-permutation calls ordered call h.each_once (found_of (Contains calls) (has_number n) calls call (recursion_from_All (Contains calls) calls (All-contains_itself calls)) e) in
          let is : call.number ≡ n = eqb-true call.number n (found_passes (has_number n) calls call e) in
          let all = All-from_recursion (IsFoundIn ordered) ordered (each_found ordered (sorted_from_strictly_increasing (numbers ordered) h.ascending)) in
          subst (λ m. find (has_number m) ordered ≡ Some call) is (All-contains (IsFoundIn ordered) ordered call all within)
    ]
    refl

-- a rule that is made for a name does what the setting says of the name
by_name : (input : CallData) (choose : List ℕ → Option Choice) (wanted : List ℕ → Action) (rest : Action)
    → ((name : List ℕ) → option_map_or (choice_action input) (choose name) rest ≡ wanted name) → (o : Option CallLine) →
    option_map_or (rule_action input) (option_and_then (rule_at choose) o) rest ≡ option_map_or (λ call. wanted call.name) o rest
by_name input choose wanted rest h None = refl
by_name input choose wanted rest h (Some call) = chosen (choose call.name) ∙ h call.name
  where
    chosen : (o : Option Choice) → option_map_or (rule_action input) (option_map (rule_with call.number) o) rest
        ≡ option_map_or (choice_action input) o rest
    chosen None = refl
    chosen (Some choice) = rule_chooses input call.number choice

pub decides : (arch : ℕ) (calls ordered : List CallLine) (choose : List ℕ → Option Choice) (wanted : List ℕ → Action)
    (rest other : Action) (input : CallData) → Ascends calls ordered →
    ((name : List ℕ) → option_map_or (choice_action input) (choose name) rest ≡ wanted name) →
    case_action (record { arch = arch; calls = rules_of choose ordered; rest = rest; other = other }) input
    ≡ cond (eqb input.arch arch) (option_map_or (λ call. wanted call.name) (numbered input.nr calls) rest) other
decides arch calls ordered choose wanted rest other input a h =
    ap (λ action. cond (eqb input.arch arch) action other)
    (ap (λ o. option_map_or (rule_action input) o rest)
    (found input.nr choose ordered (sorted_from_strictly_increasing (numbers ordered) a.ascending)
    ∙ ap (option_and_then (rule_at choose)) (same_found calls ordered input.nr a))
    ∙ by_name input choose wanted rest h (numbered input.nr calls))
