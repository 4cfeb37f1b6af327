-- Members of which each is a test.
use Rattle.std.proofs.Common.{◌≡◌, ◌≤◌, ℕ, Bool, true, false, List, [], ◌∷◌, map, length, Some, None, Option, refl, sym, ap, ◌∙◌, subst}
use Rattle.std.proofs.Common.{arith}
use Rattle.std.specs.Prelude.{is_none, option_map, option_and_then, codes, nat_le, ◌&&◌}
use Rattle.std.specs.List.{AllByRecursion}
use Rattle.std.specs.Option.{option_map_or}
use Rattle.std.proofs.lemmas.Bool.{leb-true}
use Rattle.std.proofs.lemmas.List.{length-map}
use Rattle.std.proofs.lemmas.Option.{cond_some}
use Rattle.serde_json.specs.Data.{Data}
use Rattle.serde_json.specs.Find.{get}
use Rattle.exposure_score.specs.declared.policy_file.policy.PolicyTest.{PolicyTest}
use Rattle.exposure_score.specs.policy_file.Policy.{IsTest, AreAscending, IsPolicy}
use Rattle.exposure_score.specs.policy_file.Reading.{Member, test_in, first_fault, tests_of}
use Rattle.exposure_score.specs.policy_file.Tests.{as_whole, within, weight_of, range_of, test_of}
use Rattle.exposure_score.proofs.Finding.{find_here, find_later, gives_none, gives_one}

-- ---- one test

abbrev test_with : List ℕ → ℕ × ℕ → PolicyTest
test_with id numbers = record { id = id; weight = numbers.0; range = numbers.1 }

-- what is read has a weight and a range
pub record HasParts (id : List ℕ) (weighed ranged : Option ℕ) (test : PolicyTest) : Type 0 where
  pub same_id : test.id ≡ id
  pub weight : weighed ≡ Some test.weight
  pub range : ranged ≡ Some test.range

parts_of : (id : List ℕ) (weight range : Option ℕ) (test : PolicyTest)
    → option_map (test_with id) (option_and_then (λ w. option_map (λ r. (w, r)) range) weight) ≡ Some test → HasParts id weight range test
parts_of id None range test e = cc
parts_of id (Some w) None test e = cc
parts_of id (Some w) (Some r) test e =
    let same : test_with id (w, r) ≡ test = cc in
    subst (HasParts id (Some w) (Some r)) same (record { same_id = refl; weight = refl; range = refl })

pub parts : (id : List ℕ) (said : Data) (test : PolicyTest) → test_of id said ≡ Some test
    → HasParts id (weight_of said) (range_of said) test
parts id said test e = parts_of id (weight_of said) (range_of said) test e

both_true : (a b : Bool) → a && b ≡ true → (a ≡ true) × (b ≡ true)
both_true true b e = (refl, e)
both_true false b e = cc

within_bounds : (least number found : ℕ) → within least number ≡ Some found → (least ≤ found) × (found ≤ 1000000)
within_bounds least number found e =
    let c = cond_some (nat_le least number && nat_le number 1000000) number found e in
    let b = both_true (nat_le least number) (nat_le number 1000000) c.0 in
    let low : least ≤ number = leb-true least number b.0 in
    let high : number ≤ 1000000 = leb-true number 1000000 b.1 in
    let same : number ≡ found = c.1 in
    (omega arith, omega arith)

whole_within : (least : ℕ) (whole : Option ℕ) (found : ℕ) → option_and_then (within least) whole ≡ Some found
    → (least ≤ found) × (found ≤ 1000000)
whole_within least None found e = cc
whole_within least (Some number) found e = within_bounds least number found e

range_within : (range : Option Data) (found : ℕ) → option_map_or (λ value. option_and_then (within 1) (as_whole value)) range (Some 1)
    ≡ Some found → (1 ≤ found) × (found ≤ 1000000)
range_within None found e =
    let same : 1 ≡ found = cc in
    (omega arith, omega arith)
range_within (Some value) found e = whole_within 1 (as_whole value) found e

-- numbers in range
pub is_test : (id : List ℕ) (said : Data) (test : PolicyTest) → test_of id said ≡ Some test → IsTest test
is_test id said test e =
    let p = parts id said test e in
    let weight = whole_within 0 (option_and_then as_whole (get (codes "weight") said)) test.weight p.weight in
    let range = range_within (get (codes "range") said) test.range p.range in
    record { weight = weight.1; least_range = range.0; range = range.1 }

-- ---- all tests

all_more : (one : Member) (members : List Member) (found : Option PolicyTest) → test_in one ≡ found
    → AllByRecursion IsTest (tests_of members) → AllByRecursion IsTest (tests_of (one ∷ members))
all_more one members None e h = subst (AllByRecursion IsTest) (sym (gives_none test_in one members e)) h
all_more one members (Some test) e h = subst (AllByRecursion IsTest) (sym (gives_one test_in one members test e))
    (is_test one.0 one.1 test e, h)

pub each_is_test : (members : List Member) → AllByRecursion IsTest (tests_of members)
each_is_test [] = tt
each_is_test (one ∷ members) = all_more one members (test_in one) refl (each_is_test members)

abbrev pub names : List Member → List (List ℕ)
names members = map (λ one. one.0) members

abbrev ids : List PolicyTest → List (List ℕ)
ids tests = map (λ test. test.id) tests

pub no_fault_later : (one : Member) (members : List Member) (test : PolicyTest) → test_in one ≡ Some test
    → first_fault (one ∷ members) ≡ first_fault members
no_fault_later one members test e = ap (option_map (λ (found : Member). found.0))
    (find_later (λ found. is_none (test_in found)) one members (ap is_none e))

pub fault_here : (one : Member) (members : List Member) → test_in one ≡ None → first_fault (one ∷ members) ≡ Some one.0
fault_here one members e = ap (option_map (λ (found : Member). found.0))
    (find_here (λ found. is_none (test_in found)) one members (ap is_none e))

ids_more : (one : Member) (members : List Member) (found : Option PolicyTest) → test_in one ≡ found
    → (first_fault members ≡ None → ids (tests_of members) ≡ names members)
    → first_fault (one ∷ members) ≡ None → ids (tests_of (one ∷ members)) ≡ names (one ∷ members)
ids_more one members None e h none =
    let here = fault_here one members e in
    cc
ids_more one members (Some test) e h none =
    let later = h (sym (no_fault_later one members test e) ∙ none) in
    let p = parts one.0 one.1 test e in
    ap ids (gives_one test_in one members test e) ∙ ap (λ (id : List ℕ). id ∷ ids (tests_of members)) p.same_id
    ∙ ap (λ (more : List (List ℕ)). one.0 ∷ more) later

-- the identifiers are the names
pub ids_are_names : (members : List Member) → first_fault members ≡ None → ids (tests_of members) ≡ names members
ids_are_names [] none = refl
ids_are_names (one ∷ members) none = ids_more one members (test_in one) refl (ids_are_names members) none

pub as_many : (members : List Member) → first_fault members ≡ None → length (tests_of members) ≡ length members
as_many members none =
    sym (length-map (tests_of members) (λ test. test.id)) ∙ ap length (ids_are_names members none) ∙ length-map members (λ one. one.0)

-- the tests of members in byte order, of which each is a test and there are few, are a policy
pub is_policy : (members : List Member) → AreAscending (names members) → first_fault members ≡ None → length members ≤ 512
    → IsPolicy (tests_of members)
is_policy members ascending none few = record {
  ascending = subst AreAscending (sym (ids_are_names members none)) ascending;
  few = subst (λ (n : ℕ). n ≤ 512) (sym (as_many members none)) few;
  each_test = each_is_test members;
}
