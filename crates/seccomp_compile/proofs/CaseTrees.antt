-- Cases in turn, and the values of an argument in turn and by a tree.
use Rattle.std.proofs.Common.{◌≡◌, suc, ℕ, ◌+◌, ◌-◌, ◌*◌, ◌/◌, ◌%◌, ◌^◌, ◌<◌, ◌≤◌, inl, inr, Bool, true, false, cond, eqb, find, List, []}
use Rattle.std.proofs.Common.{◌∷◌, ◌++◌, length, map, Option, Some, refl, sym, ap, ◌∙◌, subst, arith, length-append}
use Rattle.std.specs.Prelude.{◌==◌, ◌&&◌, slice_index, bit_and, sum_by}
use Rattle.std.specs.Option.{option_map_or}
use Rattle.std.specs.List.{list_all, list_any}
use Rattle.std.proofs.lemmas.Bool.{eqb-true}
use Rattle.std.proofs.lemmas.Bool.Decides.{nat_tests}
use Rattle.std.proofs.lemmas.List.Sums.{sum_by-cons}
use Rattle.call_rules.specs.bpf_code.declared.machine.CallData.{CallData}
use Rattle.call_rules.specs.bpf_code.Effects.{words_of}
use Rattle.call_rules.specs.Tested.{Tested}
use Rattle.call_rules.specs.declared.actions.Action.{Action}
use Rattle.call_rules.specs.Action.{test_holds, case_holds}
use Rattle.call_rules.specs.Sizes.{HaveFewTests}
use Rattle.call_rules.specs.declared.rules.Case.{Case}
use Rattle.call_rules.specs.declared.rules.CallRule.{CallRule}
use Rattle.seccomp_compile.specs.Compiled.{CanCompileCall}
use Rattle.seccomp_compile.specs.declared.runs.Run.{Run}
use Rattle.seccomp_compile.specs.declared.tree.Comparison.TheVariants.{Equal}
use Rattle.seccomp_compile.specs.Decisions.{Decision, ends, looks, splits, both, decide, past_look, compares, is_end, LooksInside, masked}
use Rattle.seccomp_compile.specs.Decisions.{tested_word}
use Rattle.seccomp_compile.specs.Lengths.{hop, most_of, PathWithin}
use Rattle.seccomp_compile.specs.Runs.{run_decision, AddsNumber, Closes}
use Rattle.seccomp_compile.specs.Rules.{by_tests, cases_onto, first_value, value_in, values_onto, value_wanted, is_value_test}
use Rattle.seccomp_compile.specs.Rules.{is_value_of_tests, is_value_of, AreValuesOf, DecidesValues, DecidesCases}
use Rattle.seccomp_compile.specs.Looks.{mask_of, comparison_of}
use Rattle.seccomp_compile.specs.ShortCases.{whole, AreWhole}
use Rattle.seccomp_compile.proofs.OneBit.{and_parts}
use Rattle.seccomp_compile.proofs.Steps.{low_word, test_by_mask, test_by_word, look_len-le}
use Rattle.seccomp_compile.proofs.Rising.{Each, Rises, rises_last, find_none, same_self}
use Rattle.seccomp_compile.proofs.Tiles.{Covers, covers_none, covers_more, closes_decides}
use Rattle.seccomp_compile.proofs.Bounds.{path_more, total_of, number_length, number_total, number_each, IsShort, short_of, short_alone}
use Rattle.seccomp_compile.proofs.Bounds.{inside_alone, closes_fit, closes_path, closes_inside}

eqb_comm : (a b : ℕ) → eqb a b ≡ eqb b a
eqb_comm a b = grind (arith, nat_tests)

-- Loops from the last case on.

pub cases_last : (cases : List Case) (case : Case) (otherwise : Decision) → cases_onto (cases ++ case ∷ []) otherwise ≡ cases_onto cases (by_tests case.tests case.action otherwise)
cases_last [] case otherwise = refl
cases_last (first ∷ cases) case otherwise = ap (by_tests first.tests first.action) (cases_last cases case otherwise)

pub values_last : (cases : List Case) (case : Case) (otherwise : Decision) → values_onto (cases ++ case ∷ []) otherwise ≡ values_onto cases (splits Equal (value_in case) otherwise (ends case.action))
values_last [] case otherwise = refl
values_last (first ∷ cases) case otherwise = ap (λ other. splits Equal (value_in first) other (ends first.action)) (values_last cases case otherwise)

-- Cases in turn.

abbrev wanted_of_cases : CallData → List Case → Action → Action
wanted_of_cases input cases rest = option_map_or (λ case. case.action) (find (case_holds input) cases) rest

first_case : (b : Bool) (case : Case) (found : Option Case) (rest : Action) → cond b case.action (option_map_or (λ case. case.action) found rest) ≡ option_map_or (λ case. case.action) (cond b (Some case) found) rest
first_case true case found rest = refl
first_case false case found rest = refl

and_true : (b : Bool) → (b && true) ≡ b
and_true true = refl
and_true false = refl

one_decides : (b : Bool) (action other : Action) → cond b action other ≡ cond (b && true) action other
one_decides true action other = refl
one_decides false action other = refl

two_decide : (b c : Bool) (action other : Action) → cond b (cond c action other) other ≡ cond (b && (c && true)) action other
two_decide true true action other = refl
two_decide true false action other = refl
two_decide false c action other = refl

-- what is left of a decision says the same of the word that is looked at already
past_by : (same : Bool) (offset mask other part : ℕ) (next : Decision) (input : CallData) → ((other == offset) && (part == mask)) ≡ same →
    decide (cond same next (looks other part next)) input (masked (slice_index (words_of input) (offset / 4)) mask)
    ≡ decide next input (masked (slice_index (words_of input) (other / 4)) part)
past_by true offset mask other part next input e =
    let parts = and_parts (other == offset) (part == mask) e in
    sym (ap (λ offset. decide next input (masked (slice_index (words_of input) (offset / 4)) part)) (eqb-true other offset parts.0)
    ∙ ap (λ mask. decide next input (masked (slice_index (words_of input) (offset / 4)) mask)) (eqb-true part mask parts.1))
past_by false offset mask other part next input e = refl

past_decides : (offset mask : ℕ) (decision : Decision) (input : CallData) →
    decide (past_look offset mask decision) input (masked (slice_index (words_of input) (offset / 4)) mask)
    ≡ decide decision input (masked (slice_index (words_of input) (offset / 4)) mask)
past_decides offset mask (ends action) input = refl
past_decides offset mask (looks other part next) input = past_by
    ((other == offset) && (part == mask)) offset mask other part next input refl
past_decides offset mask (splits comparison number miss hit) input = refl
past_decides offset mask (both first second action otherwise) input = refl

past_most_by : (same : Bool) (other part : ℕ) (next : Decision)
    → most_of (cond same next (looks other part next)) ≤ most_of (looks other part next)
past_most_by true other part next = omega arith
past_most_by false other part next = omega arith

past_most : (offset mask : ℕ) (decision : Decision) → most_of (past_look offset mask decision) ≤ most_of decision
past_most offset mask (ends action) = omega arith
past_most offset mask (looks other part next) = past_most_by ((other == offset) && (part == mask)) other part next
past_most offset mask (splits comparison number miss hit) = omega arith
past_most offset mask (both first second action otherwise) = omega arith

past_path_by : (same : Bool) (other part limit : ℕ) (next : Decision) → PathWithin limit (looks other part next)
    → PathWithin limit (cond same next (looks other part next))
past_path_by true other part limit next h = path_more next h.0 limit (omega (arith, h.2)) h.1
past_path_by false other part limit next h = h

past_path : (offset mask limit : ℕ) (decision : Decision) → PathWithin limit decision → PathWithin limit (past_look offset mask decision)
past_path offset mask limit (ends action) h = h
past_path offset mask limit (looks other part next) h = past_path_by ((other == offset) && (part == mask)) other part limit next h
past_path offset mask limit (splits comparison number miss hit) h = h
past_path offset mask limit (both first second action otherwise) h = h

tests_decide : (input : CallData) (tests : List Tested) (action other : Action) (otherwise : Decision) → length tests ≤ 2
    → ((word : ℕ) → decide otherwise input word ≡ other) → (word : ℕ) →
    decide (by_tests tests action otherwise) input word ≡ cond (list_all (test_holds input) tests) action other
tests_decide input [] action other otherwise few h word = refl
tests_decide input (test ∷ []) action other otherwise few h word =
    let looked = masked (slice_index (words_of input) ((16 + 8 * test.arg) / 4)) (mask_of test) in
    let same : looked ≡ tested_word input test = ap (λ w. masked w (mask_of test)) (low_word input test.arg) in
    let holds : compares (comparison_of test) looked test.value ≡ test_holds input test = ap (λ w. compares (comparison_of test) w test.value) same ∙ sym (test_by_word input test) in
    ap (λ b. cond b action (decide (past_look (16 + 8 * test.arg) (mask_of test) otherwise) input looked)) holds
    ∙ ap (λ o. cond (test_holds input test) action o) (past_decides (16 + 8 * test.arg) (mask_of test) otherwise input ∙ h looked)
    ∙ one_decides (test_holds input test) action other
tests_decide input (first ∷ second ∷ []) action other otherwise few h word =
    ap (λ o. cond (test_holds input first) (cond (test_holds input second) action o) (decide otherwise input (tested_word input first)))
    (h (tested_word input second))
    ∙ ap (λ o. cond (test_holds input first) (cond (test_holds input second) action other) o) (h (tested_word input first))
    ∙ two_decide (test_holds input first) (test_holds input second) action other
tests_decide input (first ∷ second ∷ third ∷ tests) action other otherwise few h word = absurd (omega arith)

cases_decide : (input : CallData) (cases : List Case) (rest : Action) → HaveFewTests cases → (word : ℕ)
    → decide (cases_onto cases (ends rest)) input word ≡ wanted_of_cases input cases rest
cases_decide input [] rest few word = refl
cases_decide input (case ∷ cases) rest few word =
    tests_decide input case.tests case.action (wanted_of_cases input cases rest) (cases_onto cases (ends rest)) (few 0 case (omega arith))
    (cases_decide input cases rest (λ k d below. few (suc k) d (omega arith))) word
    ∙ first_case (case_holds input case) case (find (case_holds input) cases) rest

abbrev tests_in : List Case → ℕ
tests_in cases = sum_by (λ case. length case.tests) cases

tests_most : (tests : List Tested) (action : Action) (most : ℕ) (otherwise : Decision) → length tests ≤ 2 → 1 ≤ most
    → 9 * most_of otherwise ≤ most → 9 ≤ most → 9 * most_of (by_tests tests action otherwise) ≤ most + 16 + 32 * length tests
tests_most [] action most otherwise few some h nine = omega arith
tests_most (test ∷ []) action most otherwise few some h nine =
    omega (arith, look_len-le (mask_of test), past_most (16 + 8 * test.arg) (mask_of test) otherwise)
tests_most (first ∷ second ∷ []) action most otherwise few some h nine = omega arith
tests_most (first ∷ second ∷ third ∷ tests) action most otherwise few some h nine = absurd (omega arith)

cases_most : (cases : List Case) (rest : Action) → HaveFewTests cases
    → 9 * most_of (cases_onto cases (ends rest)) ≤ 9 + 16 * length cases + 32 * tests_in cases
cases_most [] rest few = omega arith
cases_most (case ∷ cases) rest few =
    let others = cases_most cases rest (λ k d below. few (suc k) d (omega arith)) in
    omega (
      arith,
      sum_by-cons (λ case. length case.tests) case cases,
      tests_most case.tests case.action (9 + 16 * length cases + 32 * tests_in cases) (cases_onto cases (ends rest)) (few 0 case (omega arith)) (omega arith) others (omega arith),
    )

tests_path : (tests : List Tested) (action : Action) (limit more : ℕ) (otherwise : Decision) → 1 ≤ limit → PathWithin limit otherwise
    → limit + 6 ≤ more → PathWithin more (by_tests tests action otherwise)
tests_path [] action limit more otherwise some h le = omega (arith, some, le)
tests_path (test ∷ []) action limit more otherwise some h le =
    (limit + 2, (limit, past_path (16 + 8 * test.arg) (mask_of test) limit otherwise h, some, omega arith), omega (arith, le))
tests_path (first ∷ second ∷ tests) action limit more otherwise some h le = (limit, h, le, omega (arith, some, le))

cases_path : (cases : List Case) (rest : Action) (limit : ℕ) → 1 + 6 * length cases ≤ limit
    → PathWithin limit (cases_onto cases (ends rest))
cases_path [] rest limit le = omega (arith, le)
cases_path (case ∷ cases) rest limit le =
    tests_path case.tests case.action (1 + 6 * length cases) limit (cases_onto cases (ends rest)) (omega arith)
    (cases_path cases rest (1 + 6 * length cases) (omega arith)) (omega (arith, le))

-- a test of all of the low 32 bits compares with a value
value_whole : (arg value : ℕ) (tests : List Tested) → tests ≡ whole arg value ∷ [] → is_value_of_tests arg tests ≡ true
value_whole arg value tests e = ap (is_value_of_tests arg) e ∙ ap (λ b. b && true) (same_self arg)

pub values_whole : (arg : ℕ) (cases : List Case) → AreWhole arg cases → AreValuesOf arg cases
values_whole arg [] h = refl
values_whole arg (case ∷ cases) h =
    let first = h 0 case (omega arith) in
    ap (λ b. b && list_all (is_value_of arg) cases) (value_whole arg first.0 case.tests first.1)
    ∙ values_whole arg cases (λ k d below. h (suc k) d (omega arith))

pub call_in_turn : (call : CallRule) (decision : Decision) → CanCompileCall call → decision ≡ cases_onto call.cases (ends call.rest)
    → LooksInside decision → ((arg : ℕ) → AreValuesOf arg call.cases → call.cases ≡ []) → DecidesCases call decision
call_in_turn call decision can e inside none = record {
  decides = λ input word. ap (λ decision. decide decision input word) e ∙ cases_decide input call.cases call.rest can.tests word;
  most = let same = ap most_of e in omega (arith, same, cases_most call.cases call.rest can.tests);
  path = λ short. subst (PathWithin 50) (sym e) (cases_path call.cases call.rest 50 (elim short [
    | inl few ↦ omega (arith, few)
    | inr values ↦ let empty = ap (λ cases. length cases) (none values.0 (values_whole values.0 call.cases values.1)) in omega (arith, empty)
  ]));
  inside = inside;
}

-- Values in turn.

value_decides : (input : CallData) (cases : List Case) (rest : Action) (word : ℕ)
    → decide (values_onto cases (ends rest)) input word ≡ value_wanted cases rest word
value_decides input [] rest word = refl
value_decides input (case ∷ cases) rest word =
    ap (λ b. cond b case.action (decide (values_onto cases (ends rest)) input word)) (eqb_comm word (value_in case))
    ∙ ap (λ o. cond (eqb (value_in case) word) case.action o) (value_decides input cases rest word)
    ∙ first_case (eqb (value_in case) word) case (find (λ case. value_in case == word) cases) rest

value_most : (cases : List Case) (rest : Action) → most_of (values_onto cases (ends rest)) ≡ 2 * length cases + 1
value_most [] rest = refl
value_most (case ∷ cases) rest = omega (arith, value_most cases rest)

value_path : (cases : List Case) (rest : Action) (limit : ℕ) → 2 * length cases + 1 ≤ limit
    → PathWithin limit (values_onto cases (ends rest))
value_path [] rest limit le = omega (arith, le)
value_path (case ∷ cases) rest limit le = (2 * length cases + 1, value_path cases rest (2 * length cases + 1) (omega arith), omega arith, omega (arith, le))

value_inside : (cases : List Case) (rest : Action) → LooksInside (values_onto cases (ends rest))
value_inside [] rest = tt
value_inside (case ∷ cases) rest = (value_inside cases rest, tt)

pub values_by_turn : (cases : List Case) (rest : Action) (decision : Decision) → length cases ≤ 4
    → decision ≡ values_onto cases (ends rest) → DecidesValues cases rest decision
values_by_turn cases rest decision few e = record {
  decides = λ input word le lt. ap (λ decision. decide decision input word) e ∙ value_decides input cases rest word;
  most = λ some. let same = ap most_of e in omega (arith, same, value_most cases rest);
  path = λ le. subst (PathWithin 21) (sym e) (value_path cases rest 21 (omega arith));
  inside = subst LooksInside (sym e) (value_inside cases rest);
}

-- Values by a tree.

pub record Valued (cases : List Case) (rest : Action) (left : List ℕ) (runs : List Run) : Type 0 where
  pub covers : Covers (λ input word. value_wanted cases rest word) rest left runs
  pub few : length runs + 2 * length left ≤ 2 * length cases
  pub total : total_of runs + 2 * length left ≤ 2 * length cases
  pub path : Each (λ run. IsShort 1 (run_decision run)) runs
  pub inside : Each (λ run. LooksInside (run_decision run)) runs

pub valued_none : (cases : List Case) (rest : Action) (values : List ℕ)
    → ((n : ℕ) → list_any (λ m. eqb n m) values ≡ list_any (λ m. eqb n m) (map value_in cases)) → length values ≤ length cases
    → Valued cases rest values []
valued_none cases rest values members few = record {
  covers = covers_none (λ input word. value_wanted cases rest word) rest values (λ input word none.
      ap (λ found. option_map_or (λ case. case.action) found rest) (find_none value_in cases word (sym (members word) ∙ none)));
  few = omega (arith, few);
  total = omega (arith, few);
  path = tt;
  inside = tt;
}

pub valued_more : (cases : List Case) (rest : Action) (value : ℕ) (action : Action) (left others : List ℕ) (runs after : List Run)
    → value < 2 ^ 32 → left ≡ others ++ value ∷ [] → Rises left → Valued cases rest left runs →
    AddsNumber runs value (ends action) rest after → action ≡ value_wanted cases rest value → Valued cases rest others after
valued_more cases rest value action left others runs after fits split rising v added wanted =
    let rises_all = subst Rises split rising in
    let fewer = ap length split in
    record {
      covers = covers_more (λ input word. value_wanted cases rest word) rest value others runs after (ends action) fits
          (rises_last others value rises_all)
          (subst (λ left. Covers (λ input word. value_wanted cases rest word) rest left runs) split v.covers) added (λ input. wanted);
      few = omega (arith, fewer, length-append others (value ∷ []), v.few, number_length runs after value rest (ends action) added);
      total = omega (arith, fewer, length-append others (value ∷ []), v.total, number_total runs after value rest (ends action) added);
      path = number_each (IsShort 1) (short_alone 1 (omega arith)) runs after value rest (ends action) added v.path
          (short_of 1 (ends rest) (omega arith)) (short_of 1 (ends action) (omega arith));
      inside = number_each LooksInside inside_alone runs after value rest (ends action) added v.inside tt tt;
    }

pub values_closed : (cases : List Case) (rest : Action) (runs : List Run) (decision : Decision) → 5 ≤ length cases
    → Valued cases rest [] runs → Closes runs rest decision → DecidesValues cases rest decision
values_closed cases rest runs decision many v closed = record {
  decides = closes_decides (λ input word. value_wanted cases rest word) rest runs decision v.covers closed;
  most = λ some.
      let f = closes_fit runs rest decision closed in
      let count = f.2 in
      let total = f.3 in
      elim f.4 [
        | inl short ↦ omega (arith, many, v.few, v.total, count, total, short)
        | inr long ↦ let more = long.1 in omega (arith, many, v.few, v.total, count, total, more)
      ];
  path = λ le. closes_path runs rest 1 9 decision closed v.path (omega arith) (omega (arith, le, v.few));
  inside = closes_inside runs rest decision closed v.inside;
}

-- The values of an argument that a call looks at.

not_one : (arg : ℕ) (test second : Tested) (tests : List Tested) → is_value_of_tests arg (test ∷ second ∷ tests) ≡ true → ⊥
not_one arg test second tests h =
    let parts = and_parts (length (second ∷ tests) == 0) (is_value_test arg test) h in
    let none = eqb-true (length (second ∷ tests)) 0 parts.0 in
    omega arith

case_by_value : (input : CallData) (arg word : ℕ) (tests : List Tested) → is_value_of_tests arg tests ≡ true
    → word ≡ slice_index input.args arg % 2 ^ 32 → (first_value tests == word) ≡ list_all (test_holds input) tests
case_by_value input arg word [] h e = cc
case_by_value input arg word (test ∷ second ∷ tests) h e = absurd (not_one arg test second tests h)
case_by_value input arg word (test ∷ []) h e =
    let parts = and_parts (test.arg == arg) (test.mask == 2 ^ 32 - 1) h in
    let same_arg : test.arg ≡ arg = eqb-true test.arg arg parts.0 in
    let whole : masked (slice_index input.args test.arg % 2 ^ 32) test.mask ≡ slice_index input.args test.arg % 2 ^ 32 =
    ap (λ b. cond b (slice_index input.args test.arg % 2 ^ 32) (bit_and (slice_index input.args test.arg % 2 ^ 32) test.mask)) parts.1 in
    let looked : masked (slice_index input.args test.arg % 2 ^ 32) test.mask ≡ word = whole ∙ ap (λ arg. slice_index input.args arg % 2 ^ 32) same_arg ∙ sym e in
    eqb_comm test.value word ∙ ap (λ w. w == test.value) (sym looked) ∙ sym (test_by_mask input test)
    ∙ sym (and_true (test_holds input test))

cases_by_value : (input : CallData) (arg word : ℕ) (cases : List Case) → AreValuesOf arg cases → word ≡ slice_index input.args arg % 2 ^ 32 → find (λ case. value_in case == word) cases ≡ find (case_holds input) cases
cases_by_value input arg word [] h e = refl
cases_by_value input arg word (case ∷ cases) h e =
    let both_hold = and_parts (is_value_of arg case) (list_all (is_value_of arg) cases) h in
    ap (λ b. cond b (Some case) (find (λ case. value_in case == word) cases)) (case_by_value input arg word case.tests both_hold.0 e)
    ∙ ap (λ found. cond (case_holds input case) (Some case) found) (cases_by_value input arg word cases both_hold.1 e)

one_value : (arg : ℕ) (tests : List Tested) → is_value_of_tests arg tests ≡ true → length tests ≡ 1
one_value arg [] h = cc
one_value arg (test ∷ []) h = refl
one_value arg (test ∷ second ∷ tests) h = absurd (not_one arg test second tests h)

values_count : (arg : ℕ) (cases : List Case) → AreValuesOf arg cases → tests_in cases ≡ length cases
values_count arg [] h = refl
values_count arg (case ∷ cases) h =
    let both_hold = and_parts (is_value_of arg case) (list_all (is_value_of arg) cases) h in
    omega (arith, sum_by-cons (λ case. length case.tests) case cases, one_value arg case.tests both_hold.0, values_count arg cases both_hold.1)

hop-le : (b : Bool) → hop b ≤ 1
hop-le true = omega arith
hop-le false = omega arith

pub call_by_values : (call : CallRule) (arg : ℕ) (values decision : Decision) → CanCompileCall call → arg ≤ 5 → 0 < length call.cases
    → AreValuesOf arg call.cases → DecidesValues call.cases call.rest values →
    decision ≡ looks (16 + 8 * arg) (2 ^ 32 - 1) values → DecidesCases call decision
call_by_values call arg values decision can le some are v e = record {
  decides = λ input word.
      let looked = slice_index input.args arg % 2 ^ 32 in
      ap (λ decision. decide decision input word) e
      ∙ ap (decide values input) (low_word input arg)
      ∙ v.decides input looked (omega arith) (omega arith)
      ∙ ap (λ found. option_map_or (λ case. case.action) found call.rest) (cases_by_value input arg looked call.cases are refl);
  most = let same = ap most_of e in omega (arith, same, hop-le (is_end values), v.most some, values_count arg call.cases are);
  path = λ short. subst (PathWithin 50) (sym e) (21, v.path can.cases, omega arith);
  inside = subst LooksInside (sym e) (omega arith, omega arith, v.inside);
}
