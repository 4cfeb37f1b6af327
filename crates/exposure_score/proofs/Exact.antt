-- A policy in the words of its object.
use Rattle.std.proofs.Common.{◌≡◌, ◌≤◌, ℕ, zero, suc, Bool, true, false, List, [], ◌∷◌, length, Some, None, Option, Ok, Err, Ordering, Less}
use Rattle.std.proofs.Common.{Equal, Greater, nat_cmp, is_eq, refl, sym, ap, ◌∙◌, subst, arith}
use Rattle.std.specs.Prelude.{nat_lt}
use Rattle.std.specs.Cmp.Lexicographic.{slice_cmp}
use Rattle.std.specs.List.{AllByRecursion, Contains}
use Rattle.std.specs.List.Sorted.{IsStrictlySortedBy}
use Rattle.std.specs.Ordering.{match_ordering, ordering_reverse}
use Rattle.std.proofs.lemmas.Bool.Decides.{nat_tests}
use Rattle.std.proofs.lemmas.Cmp.{nat_list_cmp_total, tied_itself}
use Rattle.std.proofs.lemmas.Map.Text.{is_eq-slice_cmp}
use Rattle.std.proofs.lemmas.Slice.Eq.{bytes_eq-Decides}
use Rattle.serde_json.specs.Data.{Data, Members, no_members, member}
use Rattle.serde_json.specs.Find.{get_member}
use Rattle.exposure_score.specs.declared.policy_file.policy.PolicyTest.{PolicyTest}
use Rattle.exposure_score.specs.declared.policy_file.error.PolicyError.TheVariants.{NotJson, Field}
use Rattle.exposure_score.specs.policy_file.Exact.{IsSaid, AreExactly, IsFirstFault}
use Rattle.exposure_score.specs.policy_file.Policy.{AreAscending, IsPolicy}
use Rattle.exposure_score.specs.policy_file.Reading.{Member, members_of, names_of, test_in, first_fault, tests_of, unless_fault, policy_in}
use Rattle.exposure_score.specs.policy_file.Reading.{policy_of_object, object_of, policy_of}
use Rattle.exposure_score.specs.policy_file.Tests.{test_of}
use Rattle.exposure_score.proofs.Finding.{gives_one}
use Rattle.exposure_score.proofs.Accepted.{parts, no_fault_later, fault_here, is_policy}
use Rattle.exposure_score.proofs.Ordered.{Above, above_through, tail_ascends, text_ascends}

-- ---- elements of lists

contains_first : {A : Type 0} (x : A) (xs : List A) → Contains (x ∷ xs) x
contains_first x xs = (zero, omega arith, refl)

contains_more : {A : Type 0} (x y : A) (xs : List A) → Contains xs x → Contains (y ∷ xs) x
contains_more x y xs h = (suc h.0, omega arith, h.2)

all_weaker : {A : Type 0} {P Q : A → Type 0} (xs : List A) → ((x : A) → P x → Q x) → AllByRecursion P xs → AllByRecursion Q xs
all_weaker [] weaker h = tt
all_weaker (x ∷ xs) weaker h = (weaker x h.0, all_weaker xs weaker h.1)

-- ---- names

same_name : (one other : List ℕ) → slice_cmp nat_cmp one other ≡ Equal → one ≡ other
same_name one other e = (bytes_eq-Decides one other).0 (sym (is_eq-slice_cmp one other) ∙ ap is_eq e)

member_here : (name : List ℕ) (value : Data) (members : Members) → get_member name (member name value members) ≡ Some value
member_here name value members = ap (λ o. match_ordering o (get_member name members) (Some value) (get_member name members))
    (tied_itself nat_list_cmp_total name)

-- a name that comes after the first
member_later : (name first : List ℕ) (value : Data) (members : Members) → Above first name
    → get_member name (member first value members) ≡ get_member name members
member_later name first value members above =
    let after : slice_cmp nat_cmp name first ≡ Greater = nat_list_cmp_total.antisymm name first ∙ ap ordering_reverse above in
    ap (λ o. match_ordering o (get_member name members) (Some value) (get_member name members)) after

first_above : (first : List ℕ) (value : Data) (members : Members) → AreAscending (names_of (member first value members))
    → AllByRecursion (Above first) (names_of members)
unfolding IsStrictlySortedBy
first_above first value members up = up.0

-- a name before all others is not there
none_below_at : (o : Ordering) (name first : List ℕ) (value : Data) (found : Option Data) → slice_cmp nat_cmp name first ≡ o
    → Above name first → found ≡ None
    → match_ordering o found (Some value) found ≡ None
none_below_at Less name first value found is below none = none
none_below_at Equal name first value found is below none = cc
none_below_at Greater name first value found is below none = none

none_below : (name : List ℕ) (members : Members) → AllByRecursion (Above name) (names_of members) → get_member name members ≡ None
none_below name no_members below = refl
none_below name (member first value members) below =
    none_below_at (slice_cmp nat_cmp name first) name first value (get_member name members) refl below.0 (none_below name members below.1)

-- ---- the first fault

-- it is one of the names
fault_among_at : (P : List ℕ → Type 0) (first : List ℕ) (value : Data) (members : List Member) (id : List ℕ) (found : Option PolicyTest)
    → test_of first value ≡ found → P first
    → (first_fault members ≡ Some id → P id) → first_fault ((first, value) ∷ members) ≡ Some id → P id
fault_among_at P first value members id None e here later told =
    let is : Some first ≡ Some id = sym (fault_here (first, value) members e) ∙ told in
    let same : first ≡ id = cc in
    subst P same here
fault_among_at P first value members id (Some test) e here later told = later (sym (no_fault_later (first, value) members test e) ∙ told)

fault_among : (P : List ℕ → Type 0) (members : Members) (id : List ℕ) → AllByRecursion P (names_of members)
    → first_fault (members_of members) ≡ Some id → P id
fault_among P no_members id all told = cc
fault_among P (member first value members) id all told =
    fault_among_at P first value (members_of members) id (test_of first value) refl all.0 (fault_among P members id all.1) told

-- what is found at a name behind a first member that is a test
earlier_at : (o : Ordering) (first other : List ℕ) (value said : Data) (found : Option Data) (test : PolicyTest)
    → slice_cmp nat_cmp other first ≡ o → test_of first value ≡ Some test
    → (found ≡ Some said → (one : PolicyTest) × (test_of other said ≡ Some one)) → match_ordering o found (Some value) found ≡ Some said
    → (one : PolicyTest) × (test_of other said ≡ Some one)
earlier_at Less first other value said found test is e later h = later h
earlier_at Equal first other value said found test is e later h =
    let name : first ≡ other = sym (same_name other first is) in
    let same : value ≡ said = cc in
    (test, ap (λ n. test_of n said) (sym name) ∙ ap (test_of first) (sym same) ∙ e)
earlier_at Greater first other value said found test is e later h = later h

first_is_fault : (first : List ℕ) (value : Data) (members : Members) → AreAscending (names_of (member first value members))
    → test_of first value ≡ None → IsFirstFault (member first value members) first
first_is_fault first value members up e = record {
  said = value;
  stands = member_here first value members;
  says_none = e;
  earlier = λ other said below h.
      let others = above_through other first (names_of members) below (first_above first value members up) in
      let none : get_member other (member first value members) ≡ None = none_below other (member first value members) (below, others) in
      let no : ⊥ = cc in
      absurd no;
}

later_is_fault : (first : List ℕ) (value : Data) (members : Members) (id : List ℕ) (test : PolicyTest) → Above first id
    → test_of first value ≡ Some test → IsFirstFault members id
    → IsFirstFault (member first value members) id
later_is_fault first value members id test above e fault = record {
  said = fault.said;
  stands = member_later id first value members above ∙ fault.stands;
  says_none = fault.says_none;
  earlier = λ other said below h. earlier_at (slice_cmp nat_cmp other first) first other value said (get_member other members) test refl e
      (fault.earlier other said below) h;
}

fault_at : (first : List ℕ) (value : Data) (members : Members) (id : List ℕ) (found : Option PolicyTest) → test_of first value ≡ found
    → AreAscending (names_of (member first value members))
    → (first_fault (members_of members) ≡ Some id → IsFirstFault members id)
    → first_fault (members_of (member first value members)) ≡ Some id → IsFirstFault (member first value members) id
fault_at first value members id None e up later told =
    let is : Some first ≡ Some id = sym (fault_here (first, value) (members_of members) e) ∙ told in
    let same : first ≡ id = cc in
    subst (IsFirstFault (member first value members)) same (first_is_fault first value members up e)
fault_at first value members id (Some test) e up later told =
    let told_later = sym (no_fault_later (first, value) (members_of members) test e) ∙ told in
    let above : Above first id = fault_among (Above first) members id (first_above first value members up) told_later in
    later_is_fault first value members id test above e (later told_later)

fault_is_first : (members : Members) (id : List ℕ) → AreAscending (names_of members) → first_fault (members_of members) ≡ Some id
    → IsFirstFault members id
fault_is_first no_members id up told = cc
fault_is_first (member first value members) id up told =
    fault_at first value members id (test_of first value) refl up (fault_is_first members id (tail_ascends first value members up)) told

-- ---- the tests

said_at : (o : Ordering) (first id : List ℕ) (value said : Data) (found : Option Data) (test : PolicyTest) (tests : List PolicyTest)
    → slice_cmp nat_cmp id first ≡ o → test_of first value ≡ Some test
    → (found ≡ Some said → (one : PolicyTest) × (test_of id said ≡ Some one) × Contains tests one)
    → match_ordering o found (Some value) found ≡ Some said
    → (one : PolicyTest) × (test_of id said ≡ Some one) × Contains (test ∷ tests) one
said_at Less first id value said found test tests is e later h = let p = later h in (p.0, p.1, contains_more p.0 test tests p.2)
said_at Equal first id value said found test tests is e later h =
    let name : first ≡ id = sym (same_name id first is) in
    let same : value ≡ said = cc in
    (test, ap (λ n. test_of n said) (sym name) ∙ ap (test_of first) (sym same) ∙ e, contains_first test tests)
said_at Greater first id value said found test tests is e later h = let p = later h in (p.0, p.1, contains_more p.0 test tests p.2)

said_later : (first : List ℕ) (value : Data) (members : Members) (test : PolicyTest) → Above first test.id → IsSaid members test
    → IsSaid (member first value members) test
said_later first value members test above h =
    record { said = h.said; stands = member_later test.id first value members above ∙ h.stands; says = h.says }

-- a name that is found is one of the names
found_among_at : (o : Ordering) (P : List ℕ → Type 0) (first name : List ℕ) (value said : Data) (found : Option Data)
    → slice_cmp nat_cmp name first ≡ o → P first
    → (found ≡ Some said → P name) → match_ordering o found (Some value) found ≡ Some said → P name
found_among_at Less P first name value said found is here later h = later h
found_among_at Equal P first name value said found is here later h = subst P (sym (same_name name first is)) here
found_among_at Greater P first name value said found is here later h = later h

found_among : (P : List ℕ → Type 0) (name : List ℕ) (members : Members) (said : Data) → AllByRecursion P (names_of members)
    → get_member name members ≡ Some said → P name
found_among P name no_members said all h = cc
found_among P name (member first value members) said all h =
    found_among_at (slice_cmp nat_cmp name first) P first name value said (get_member name members) refl all.0
    (found_among P name members said all.1) h

said_first : (first : List ℕ) (value : Data) (members : Members) (test : PolicyTest) → test_of first value ≡ Some test
    → IsSaid (member first value members) test
said_first first value members test e =
    let name : first ≡ test.id = sym (parts first value test e).same_id in
    record {
      said = value;
      stands = subst (λ (n : List ℕ). get_member n (member first value members) ≡ Some value) name (member_here first value members);
      says = subst (λ (n : List ℕ). test_of n value ≡ Some test) name e;
    }

exactly_more : (first : List ℕ) (value : Data) (members : Members) (test : PolicyTest) (tests : List PolicyTest)
    → AreAscending (names_of (member first value members)) → test_of first value ≡ Some test
    → AreExactly members tests → AreExactly (member first value members) (test ∷ tests)
exactly_more first value members test tests up e more = record {
  each_member = λ id said h. said_at (slice_cmp nat_cmp id first) first id value said (get_member id members) test tests refl e
      (more.each_member id said) h;
  each_test = (
    said_first first value members test e,
    all_weaker tests (λ (one : PolicyTest) (h : IsSaid members one). said_later first value members one
        (found_among (Above first) one.id members h.said (first_above first value members up) h.stands) h) more.each_test,
  );
}

exactly_at : (first : List ℕ) (value : Data) (members : Members) (found : Option PolicyTest) → test_of first value ≡ found
    → AreAscending (names_of (member first value members))
    → (first_fault (members_of members) ≡ None → AreExactly members (tests_of (members_of members)))
    → first_fault (members_of (member first value members)) ≡ None
    → AreExactly (member first value members) (tests_of (members_of (member first value members)))
exactly_at first value members None e up later none =
    let is : None ≡ Some first = sym none ∙ fault_here (first, value) (members_of members) e in
    cc
exactly_at first value members (Some test) e up later none =
    let none_later = sym (no_fault_later (first, value) (members_of members) test e) ∙ none in
    subst (AreExactly (member first value members)) (sym (gives_one test_in (first, value) (members_of members) test e))
    (exactly_more first value members test (tests_of (members_of members)) up e (later none_later))

are_exactly : (members : Members) → AreAscending (names_of members) → first_fault (members_of members) ≡ None
    → AreExactly members (tests_of (members_of members))
are_exactly no_members up none = record { each_member = λ id said h. cc; each_test = tt }
are_exactly (member first value members) up none =
    exactly_at first value members (test_of first value) refl up (are_exactly members (tail_ascends first value members up)) none

-- ---- of bytes

at_most_512 : (number : ℕ) → nat_lt 512 number ≡ false → number ≤ 512
at_most_512 number e = grind (arith, nat_tests)

-- an accepted policy has no fault, and few tests
accepted_parts : (fault : Option (List ℕ)) (many : Bool) (all tests : List PolicyTest) → unless_fault fault many all ≡ Ok tests
    → (fault ≡ None) × (many ≡ false) × (all ≡ tests)
accepted_parts (Some id) many all tests e = cc
accepted_parts None true all tests e = cc
accepted_parts None false all tests e = (refl, refl, cc)

fault_told : (fault : Option (List ℕ)) (many : Bool) (all : List PolicyTest) (id : List ℕ) → unless_fault fault many all ≡ Err (Field id)
    → fault ≡ Some id
fault_told (Some one) many all id e = cc
fault_told None true all id e = cc
fault_told None false all id e = cc

accepted_of : (bytes : List ℕ) (members : Members) (tests : List PolicyTest) → object_of bytes ≡ Some members → policy_of bytes ≡ Ok tests
    → policy_in (members_of members) ≡ Ok tests
accepted_of bytes members tests found e = sym (ap policy_of_object found) ∙ e

pub exact_tests : (bytes : List ℕ) (members : Members) (tests : List PolicyTest) → object_of bytes ≡ Some members
    → policy_of bytes ≡ Ok tests → AreExactly members tests
exact_tests bytes members tests found e =
    let p = accepted_parts (first_fault (members_of members)) (nat_lt 512 (length (members_of members))) (tests_of (members_of members)) tests (accepted_of bytes members tests found e) in
    subst (AreExactly members) p.2 (are_exactly members (text_ascends bytes members found) p.0)

holds_in : (bytes : List ℕ) (members : Members) (tests : List PolicyTest) → object_of bytes ≡ Some members → policy_of bytes ≡ Ok tests
    → IsPolicy tests
holds_in bytes members tests found e =
    let p = accepted_parts (first_fault (members_of members)) (nat_lt 512 (length (members_of members))) (tests_of (members_of members)) tests (accepted_of bytes members tests found e) in
    subst IsPolicy p.2 (is_policy (members_of members) (text_ascends bytes members found) p.0
    (at_most_512 (length (members_of members)) p.1))

holds_at : (object : Option Members) (bytes : List ℕ) (tests : List PolicyTest) → object_of bytes ≡ object → policy_of bytes ≡ Ok tests
    → IsPolicy tests
holds_at None bytes tests found e =
    let is : Err NotJson ≡ Ok tests = sym (ap policy_of_object found) ∙ e in
    cc
holds_at (Some members) bytes tests found e = holds_in bytes members tests found e

pub accepted_holds : (bytes : List ℕ) (tests : List PolicyTest) → policy_of bytes ≡ Ok tests → IsPolicy tests
accepted_holds bytes tests e = holds_at (object_of bytes) bytes tests refl e

pub first_in_byte_order : (bytes : List ℕ) (members : Members) (id : List ℕ) → object_of bytes ≡ Some members
    → policy_of bytes ≡ Err (Field id) → IsFirstFault members id
first_in_byte_order bytes members id found e =
    fault_is_first members id (text_ascends bytes members found)
    (fault_told (first_fault (members_of members)) (nat_lt 512 (length (members_of members))) (tests_of (members_of members)) id
    (sym (ap policy_of_object found) ∙ e))
