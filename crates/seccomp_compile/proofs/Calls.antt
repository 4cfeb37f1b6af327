-- Calls by their numbers.
use Rattle.std.proofs.Common.{◌≡◌, suc, ℕ, ◌+◌, ◌-◌, ◌*◌, ◌^◌, ◌<◌, ◌≤◌, Bool, true, false, cond, find, List, [], ◌∷◌, ◌++◌, length, map}
use Rattle.std.proofs.Common.{inl, inr, refl, sym, ap, ◌∙◌, subst, arith, length-append, append_assoc, append-nil}
use Rattle.std.specs.Prelude.{◌==◌}
use Rattle.std.specs.Option.{option_map_or}
use Rattle.std.specs.List.{All, sum_by}
use Rattle.std.specs.List.Sorted.{IsStrictlyIncreasing}
use Rattle.std.proofs.lemmas.List.Sums.{sum_by-cons, sum_by-le}
use Rattle.call_rules.specs.Action.{call_action}
use Rattle.call_rules.specs.Sizes.{wide_len, most_insns, HaveFewTests, CanCompile}
use Rattle.call_rules.specs.declared.actions.Action.{Action}
use Rattle.call_rules.specs.declared.rules.Case.{Case}
use Rattle.call_rules.specs.declared.rules.CallRule.{CallRule}
use Rattle.call_rules.specs.declared.rules.RuleSet.{RuleSet}
use Rattle.seccomp_compile.specs.Compiled.{CanCompileCall}
use Rattle.seccomp_compile.specs.declared.runs.Run.{Run}
use Rattle.seccomp_compile.specs.declared.tree.Comparison.TheVariants.{Equal}
use Rattle.seccomp_compile.specs.Decisions.{Decision, ends, looks, splits, decide, is_end, LooksInside}
use Rattle.seccomp_compile.specs.Lengths.{hop, most_of, PathWithin}
use Rattle.seccomp_compile.specs.Runs.{run_decision, AddsNumber, Closes}
use Rattle.seccomp_compile.specs.Rules.{Wanted, weight_of, wides_in, DecidesCall, DecidesNumbers, DecidesRules}
use Rattle.seccomp_compile.specs.ShortCases.{HasShortCases}
use Rattle.seccomp_compile.proofs.Rising.{Each, each_all, each_before, each_last, each_map, Rises, rises, rises_before, rises_last}
use Rattle.seccomp_compile.proofs.Rising.{sum_last, find_none, find_here, map_last}
use Rattle.seccomp_compile.proofs.Tiles.{Covers, covers_none, covers_more, closes_decides}
use Rattle.seccomp_compile.proofs.Bounds.{total_of, number_length, number_total, number_each, IsShort, short_of, short_alone, inside_alone}
use Rattle.seccomp_compile.proofs.Bounds.{closes_fit, closes_path, closes_inside}

abbrev pub number_of : CallRule → ℕ
number_of call = call.number

abbrev pub wanted_of : List CallRule → Action → Wanted
wanted_of calls rest input word = option_map_or (call_action input) (find (λ call. call.number == word) calls) rest

-- what holds while calls are left
pub record Numbered (calls : List CallRule) (rest : Action) (left : List CallRule) (runs : List Run) : Type 0 where
  pub covers : Covers (wanted_of calls rest) rest (map number_of left) runs
  pub rising : Rises (map number_of left)
  pub after : List CallRule
  pub split : calls ≡ left ++ after
  pub can : Each CanCompileCall left
  pub few : length runs + 2 * length left ≤ 2 * length calls
  pub total : 9 * total_of runs + 18 * length left + 8 * sum_by weight_of left + 27 * wides_in left
      ≤ 18 * length calls + 8 * sum_by weight_of calls + 27 * wides_in calls
  pub path : Each (λ run. All HasShortCases calls → IsShort 55 (run_decision run)) runs
  pub inside : Each (λ run. LooksInside (run_decision run)) runs

pub numbered_none : (calls : List CallRule) (rest : Action) → IsStrictlyIncreasing (map number_of calls) → All CanCompileCall calls
    → Numbered calls rest calls []
numbered_none calls rest increasing can = record {
  covers = covers_none (wanted_of calls rest) rest (map number_of calls)
      (λ input word none. ap (λ found. option_map_or (call_action input) found rest) (find_none number_of calls word none));
  rising = rises (map number_of calls) increasing;
  after = [];
  split = sym (append-nil calls);
  can = each_all CanCompileCall calls can;
  few = omega arith;
  total = omega arith;
  path = tt;
  inside = tt;
}

pub last_can : (calls : List CallRule) (rest : Action) (left others : List CallRule) (call : CallRule) (runs : List Run)
    → left ≡ others ++ call ∷ [] → Numbered calls rest left runs → CanCompileCall call
last_can calls rest left others call runs is n = each_last CanCompileCall others call (subst (Each CanCompileCall) is n.can)

pub numbered_more : (calls : List CallRule) (rest : Action) (left others : List CallRule) (call : CallRule) (runs after : List Run)
    (decision : Decision) → call.number < 2 ^ 32 → left ≡ others ++ call ∷ [] →
    Numbered calls rest left runs → DecidesCall call decision → AddsNumber runs call.number decision rest after
    → Numbered calls rest others after
numbered_more calls rest left others call runs after decision fits is n d added =
    let numbers : map number_of left ≡ map number_of others ++ call.number ∷ [] = ap (map number_of) is ∙ map_last number_of others call in
    let rising = subst Rises numbers n.rising in
    let lower = rises_last (map number_of others) call.number rising in
    let whole : calls ≡ others ++ call ∷ n.after = n.split ∙ ap (λ left. left ++ n.after) is ∙ append_assoc others (call ∷ []) n.after in
    let fewer = ap length is in
    let weights : sum_by weight_of left ≡ sum_by weight_of others + weight_of call = ap (sum_by weight_of) is ∙ sum_last weight_of others call in
    let wides : wides_in left ≡ wides_in others + wide_len call.wide = ap wides_in is ∙ sum_last (λ call. wide_len call.wide) others call in
    record {
      covers = covers_more (wanted_of calls rest) rest call.number (map number_of others) runs after decision fits lower
          (subst (λ numbers. Covers (wanted_of calls rest) rest numbers runs) numbers n.covers) added
          (λ input. d.decides input call.number ∙ sym (ap (λ found. option_map_or (call_action input) found rest)
          (ap (find (λ other. other.number == call.number)) whole ∙ find_here number_of others n.after call lower)));
      rising = rises_before (map number_of others) (call.number ∷ []) rising;
      after = call ∷ n.after;
      split = whole;
      can = each_before CanCompileCall others (call ∷ []) (subst (Each CanCompileCall) is n.can);
      few = omega (arith, n.few, fewer, length-append others (call ∷ []), number_length runs after call.number rest decision added);
      total = omega (arith, n.total, fewer, length-append others (call ∷ []), weights, wides, d.most, number_total runs after call.number rest decision added);
      path = number_each (λ decision. All HasShortCases calls → IsShort 55 decision)
          (λ number action decision plain ending h short. short_alone 55 (omega arith) number action decision plain (ending short)
          (h short))
          runs after call.number rest decision added n.path (λ short. short_of 55 (ends rest) (omega arith))
          (λ short. short_of 55 decision
          (d.path (each_last HasShortCases others call
          (subst (Each HasShortCases) is
          (each_before HasShortCases left n.after (subst (Each HasShortCases) n.split (each_all HasShortCases calls short)))))));
      inside = number_each LooksInside inside_alone runs after call.number rest decision added n.inside tt d.inside;
    }

pub numbers_closed : (calls : List CallRule) (rest : Action) (runs : List Run) (decision : Decision) → Numbered calls rest [] runs
    → Closes runs rest decision → DecidesNumbers calls rest decision
numbers_closed calls rest runs decision n closed = record {
  decides = closes_decides (wanted_of calls rest) rest runs decision n.covers closed;
  most =
      let f = closes_fit runs rest decision closed in
      let count = f.2 in
      let total = f.3 in
      elim f.4 [
        | inl short ↦ omega (arith, n.few, n.total, count, total, short)
        | inr long ↦ let more = long.1 in omega (arith, n.few, n.total, count, total, more)
      ];
  path = λ short few. closes_path runs rest 55 11 decision closed (each_map _ _ runs (λ run h. h short) n.path) (omega arith)
      (omega (arith, few, n.few));
  inside = closes_inside runs rest decision closed n.inside;
}

-- All rules.

abbrev tests_in : List Case → ℕ
tests_in cases = sum_by (λ case. length case.tests) cases

weights : (calls : List CallRule) → sum_by weight_of calls ≡ 2 * sum_by (λ call. length call.cases) calls + 4 * sum_by
    (λ call. tests_in call.cases) calls
weights [] = refl
weights (call ∷ calls) = omega (arith, sum_by-cons weight_of call calls, sum_by-cons (λ call. length call.cases) call calls, sum_by-cons (λ call. tests_in call.cases) call calls, weights calls)

hop-le : (b : Bool) → hop b ≤ 1
hop-le true = omega arith
hop-le false = omega arith

pub rules_decided : (rules : RuleSet) (numbers decision : Decision) → CanCompile rules → DecidesNumbers rules.calls rules.rest numbers →
    decision ≡ looks 4 (2 ^ 32 - 1) (splits Equal rules.arch (ends rules.other) (looks 0 (2 ^ 32 - 1) numbers))
    → DecidesRules rules decision
rules_decided rules numbers decision can n e = record {
  tree = ap is_end e;
  decides = λ input word fits.
      ap (λ decision. decide decision input word) e
      ∙ ap (λ action. cond (input.arch == rules.arch) action rules.other) (n.decides input input.nr (omega arith) fits);
  most = let same = ap most_of e in omega (arith, same, hop-le (is_end numbers), n.most, weights rules.calls, can.wides);
  path = λ short. subst (PathWithin 96) (sym e)
      (84, (82, omega arith, (79, n.path short can.calls, omega arith), omega arith), omega arith);
  inside = subst LooksInside (sym e) (omega arith, omega arith, (tt, (omega arith, omega arith, n.inside)));
}

-- there are at most twice as many tests as cases
few_tests : (cases : List Case) → HaveFewTests cases → tests_in cases ≤ length cases * 2
few_tests cases few = sum_by-le (λ case. length case.tests) 2 cases few

few_tests_in_all : (calls : List CallRule) → All (λ call. HaveFewTests call.cases) calls
    → sum_by (λ call. tests_in call.cases) calls ≤ 2 * sum_by (λ call. length call.cases) calls
few_tests_in_all [] few = omega arith
few_tests_in_all (call ∷ calls) few =
    let here = few_tests call.cases (few 0 call (omega arith)) in
    let more = few_tests_in_all calls (λ k d below. few (suc k) d (omega arith)) in
    omega (arith, here, more, sum_by-cons (λ call. length call.cases) call calls, sum_by-cons (λ call. tests_in call.cases) call calls)

-- no program within the condition is too long
pub most_insns-le : (rules : RuleSet) → CanCompile rules → most_insns rules ≤ 4096
most_insns-le rules can = omega (arith, can.calls, can.cases, few_tests_in_all rules.calls can.tests, can.wides)
