-- The number of rules: at most one for each call, and for each name that may have a rule.
use Rattle.std.proofs.Common.{◌≡◌, ℕ, zero, suc, ◌+◌, ◌≤◌, Bool, true, false, cond, Option, Some, None, List, [], ◌∷◌, length, refl, sym}
use Rattle.std.proofs.Common.{ap, ◌∙◌, arith, subst}
use Rattle.std.specs.Prelude.{◌||◌, is_some, slice_get, unwrap_or}
use Rattle.std.specs.Option.{option_map}
use Rattle.std.specs.List.{cons_option, sum_by}
use Rattle.std.specs.Str.{bytes_eq}
use Rattle.std.proofs.lemmas.List.Sums.{sum_by-cons, sum_by-le-sum_by}
use Rattle.std.proofs.lemmas.List.Sorted.{sum_by-IsPermutation, length_permutation}
use Rattle.std.proofs.lemmas.Slice.Eq.{bytes_eq-Decides}
use Rattle.call_table.specs.declared.listed.CallLine.{CallLine}
use Rattle.call_table.specs.Lookups.{AreOnce, place_named}
use Rattle.filter_settings.specs.declared.filter_rules.choice.Choice.{Choice}
use Rattle.filter_settings.specs.filter_rules.Actions.{is_one_of}
use Rattle.filter_settings.specs.filter_rules.Choices.{rule_with}
use Rattle.filter_settings.specs.filter_rules.Order.{Ascends}
use Rattle.filter_settings.proofs.Walked.{rules_of}

abbrev one : Bool → ℕ
one b = cond b 1 0

-- a call has a rule
abbrev has_rule : (List ℕ → Option Choice) → CallLine → Bool
has_rule choose call = is_some (choose call.name)

length_rules : (choose : List ℕ → Option Choice) (calls : List CallLine)
    → length (rules_of choose calls) ≡ sum_by (λ call. one (has_rule choose call)) calls
length_rules choose [] = refl
length_rules choose (call ∷ calls) = added (choose call.name) (length_rules choose calls)
    ∙ sym (sum_by-cons (λ call. one (has_rule choose call)) call calls)
  where
    added : (o : Option Choice) → length (rules_of choose calls) ≡ sum_by (λ call. one (has_rule choose call)) calls →
        length (cons_option (option_map (rule_with call.number) o) (rules_of choose calls))
        ≡ one (is_some o) + sum_by (λ call. one (has_rule choose call)) calls
    added None h = omega (arith, h)
    added (Some choice) h = omega (arith, h)

-- each call has at most one rule
one_le : (b : Bool) → one b ≤ 1
one_le true = omega arith
one_le false = omega arith

ones_le_length : (choose : List ℕ → Option Choice) (calls : List CallLine)
    → sum_by (λ call. one (has_rule choose call)) calls ≤ length calls
ones_le_length choose [] = omega arith
ones_le_length choose (call ∷ calls) =
    omega (arith, sum_by-cons (λ call. one (has_rule choose call)) call calls, ones_le_length choose calls, one_le (has_rule choose call))

pub rules_le_calls : (choose : List ℕ → Option Choice) (calls ordered : List CallLine) → Ascends calls ordered
    → length (rules_of choose ordered) ≤ length calls
rules_le_calls choose calls ordered h =
    omega (arith, length_rules choose ordered, ones_le_length choose ordered, length_permutation calls ordered h.each_once)

-- a test that no element passes, and then a test that elements pass at one place at most
none_of : {X : Type 0} (test : X → Bool) (xs : List X) → ((at : ℕ) (x : X) → slice_get xs at ≡ Some x → test x ≡ true → ⊥)
    → sum_by (λ x. one (test x)) xs ≤ 0
none_of test [] h = omega arith
none_of test (x ∷ xs) h =
    let rest : sum_by (λ x. one (test x)) xs ≤ 0 = none_of test xs (λ at y. h (suc at) y) in
    let fails : one (test x) ≤ 0 = elim (test x) as (λ b. test x ≡ b → one b ≤ 0) [ true ↦ λ e. absurd (h zero x refl e) | false ↦ λ e. omega arith ] refl in
    omega (arith, sum_by-cons (λ x. one (test x)) x xs, rest, fails)

one_place : {X : Type 0} (test : X → Bool) (place n : ℕ) (xs : List X)
    → ((at : ℕ) (x : X) → slice_get xs at ≡ Some x → test x ≡ true → n + at ≡ place) → sum_by (λ x. one (test x)) xs ≤ 1
one_place test place n [] h = omega arith
one_place test place n (x ∷ xs) h =
    elim (test x) as (λ b. test x ≡ b → sum_by (λ x. one (test x)) (x ∷ xs) ≤ 1) [
      | true ↦ λ e.
          let rest : sum_by (λ x. one (test x)) xs ≤ 0 = none_of test xs (λ at y is passes. let here = h zero x refl e in let there = h (suc at) y is passes in absurd (omega arith)) in
          let passes : one (test x) ≡ 1 = ap one e in
          omega (arith, sum_by-cons (λ x. one (test x)) x xs, rest, passes)
      | false ↦ λ e.
          let rest : sum_by (λ x. one (test x)) xs ≤ 1 = one_place test place (n + 1) xs (λ at y is passes. let there = h (suc at) y is passes in omega arith) in
          let fails : one (test x) ≡ 0 = ap one e in
          omega (arith, sum_by-cons (λ x. one (test x)) x xs, rest, fails)
    ]
    refl

-- a name occurs once
once : (calls : List CallLine) (name : List ℕ) → AreOnce calls → sum_by (λ call. one (bytes_eq call.name name)) calls ≤ 1
once calls name h =
    one_place (λ call. bytes_eq call.name name) (unwrap_or (place_named name calls) 0) 0 calls
    (λ at call is same.
    let e : call.name ≡ name = (bytes_eq-Decides call.name name).0 same in
    let found : place_named name calls ≡ Some at = subst (λ other. place_named other calls ≡ Some at) e (h.by_name at call is) in
    let place : at ≡ unwrap_or (place_named name calls) 0 = sym (ap (λ o. unwrap_or o 0) found) in
    omega arith)

-- the name is one of several: the first of them or one of the others
split : (calls : List CallLine) (name : List ℕ) (names : List (List ℕ)) →
    sum_by (λ call. one (is_one_of call.name (name ∷ names))) calls ≤ sum_by (λ call. one (bytes_eq call.name name)) calls + sum_by
    (λ call. one (is_one_of call.name names)) calls
split [] name names = omega arith
split (call ∷ calls) name names =
    omega (
      arith,
      split calls name names,
      either (bytes_eq call.name name) (is_one_of call.name names),
      sum_by-cons (λ call. one (is_one_of call.name (name ∷ names))) call calls,
      sum_by-cons (λ call. one (bytes_eq call.name name)) call calls,
      sum_by-cons (λ call. one (is_one_of call.name names)) call calls,
    )
  where
    either : (a b : Bool) → one (a || b) ≤ one a + one b
    either true b = omega arith
    either false b = omega arith

zeros : (calls : List CallLine) → sum_by (λ call. one (is_one_of call.name [])) calls ≤ 0
zeros [] = omega arith
zeros (call ∷ calls) = omega (arith, sum_by-cons (λ call. one (is_one_of call.name [])) call calls, zeros calls)

names_once : (calls : List CallLine) (names : List (List ℕ)) → AreOnce calls
    → sum_by (λ call. one (is_one_of call.name names)) calls ≤ length names
names_once calls [] h = zeros calls
names_once calls (name ∷ names) h = omega (arith, split calls name names, once calls name h, names_once calls names h)

-- only these names have a rule
abbrev pub AreAmong : List (List ℕ) → (List ℕ → Option Choice) → Type 0
AreAmong names choose = (name : List ℕ) → is_some (choose name) ≡ true → is_one_of name names ≡ true

implied : (a b : Bool) → (a ≡ true → b ≡ true) → one a ≤ one b
implied false b h = omega arith
implied true b h = subst (λ v. 1 ≤ one v) (sym (h refl)) (omega arith)

pub rules_le_names : (choose : List ℕ → Option Choice) (names : List (List ℕ)) (calls ordered : List CallLine) → AreAmong names choose
    → AreOnce calls → Ascends calls ordered → length (rules_of choose ordered) ≤ length names
rules_le_names choose names calls ordered among once_each h =
    let few = sum_by-le-sum_by (λ call. one (has_rule choose call)) (λ call. one (is_one_of call.name names)) calls (λ call. implied (has_rule choose call) (is_one_of call.name names) (among call.name)) in
    omega (arith, length_rules choose ordered, sum_by-IsPermutation (λ call. one (has_rule choose call)) calls ordered h.each_once, few, names_once calls names once_each)
