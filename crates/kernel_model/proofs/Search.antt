-- The place of a number's line, found in the order of the numbers.
use Rattle.std.proofs.Common.{◌≡◌, ℕ, ◌<◌, ◌≤◌, Bool, true, false, eqb, ltb, cond, List, [], length, map, get_or, Option, Some, None, refl}
use Rattle.std.proofs.Common.{sym, ap, ◌∙◌, arith, zero-add}
use Rattle.std.specs.Prelude.{find, slice_get, option_and_then}
use Rattle.std.specs.List.{enumerate_from, position, position_or_len, HoldsAt}
use Rattle.std.specs.List.Sorted.{IsNonDecreasingBy, IsPartitionPoint}
use Rattle.std.specs.Ordering.{nat_cmp, ordering_index}
use Rattle.std.specs.declared.cmp.Ordering.TheVariants.{Less, Equal, Greater}
use Rattle.std.proofs.lemmas.Bool.Decides.{nat_tests}
use Rattle.std.proofs.lemmas.Cmp.{ranked}
use Rattle.std.proofs.lemmas.List.{length-map, get_or-map}
use Rattle.std.proofs.lemmas.List.Elements.{Contains-get_or, at_from_Contains}
use Rattle.std.proofs.lemmas.List.Folds.{find_at}
use Rattle.std.proofs.lemmas.List.FromFn.{length-enumerate_from, get_or-enumerate_from}
use Rattle.std.proofs.lemmas.List.Kept.{AllPairs-from_increasing}
use Rattle.std.proofs.lemmas.List.Sorted.{IsPermutation-sym, Contains-permutation, IsNonDecreasingBy-from_default}
use Rattle.std.proofs.lemmas.Option.{slice_get-get_or, slice_get_past}
use Rattle.call_table.specs.declared.call_names.kernel.Kernel.TheVariants.{Base}
use Rattle.call_table.specs.declared.listed.CallLine.{CallLine}
use Rattle.call_table.specs.declared.by_number.Numbered.{Numbered}
use Rattle.call_table.specs.Lookups.{has_number, numbered, place_numbered}
use Rattle.call_table.specs.ByNumber.{numbered_at, numbered_lines, AscendsByNumber}
use Rattle.kernel_model.specs.declared.kernel_calls.rule.Rule.{Rule}
use Rattle.kernel_model.specs.kernel_calls.Rules.{rule_of, rule_at}
use Rattle.call_table.proofs.Places.{place_found, place_nowhere, place_is}

abbrev pub none : Numbered
none = record { number = 0; position = 0 }

abbrev blank : CallLine
blank = record { name = []; number = 0; cap = None; abi = 0; kernel = Base }

-- the line at a place, with its number
abbrev line_at : List CallLine → ℕ → Numbered
line_at lines at = record { number = (get_or lines at blank).number; position = at }

many_lines : (lines : List CallLine) → length (numbered_lines lines) ≡ length lines
many_lines lines = length-map (enumerate_from 0 lines) numbered_at ∙ length-enumerate_from 0 lines

get_line : (lines : List CallLine) (at : ℕ) → at < length lines → get_or (numbered_lines lines) at none ≡ line_at lines at
get_line lines at h =
    let many = length-enumerate_from 0 lines in
    get_or-map numbered_at (enumerate_from 0 lines) at (0, blank) none (omega (arith, many))
    ∙ ap numbered_at (get_or-enumerate_from 0 lines at (0, blank) h)
    ∙ ap (λ n. record { number = (get_or lines at blank).number; position = n }) (zero-add at)

module _ (lines : List CallLine) (order : List Numbered) (ascends : AscendsByNumber lines order) where
  -- each line stands in the order
  ordered : (at : ℕ) → at < length lines → (k : ℕ) × (k < length order) × (get_or order k none ≡ line_at lines at)
  ordered at h =
      let many = many_lines lines in
      let there = Contains-permutation (numbered_lines lines) order _ ascends.each_once (Contains-get_or (numbered_lines lines) at none (omega (arith, many))) in
      let found = at_from_Contains order _ there in
      (found.0, found.1, found.2 none ∙ get_line lines at h)

  -- and each element of the order is a line
  of_line : (k : ℕ) → k < length order → (at : ℕ) × (at < length lines) × (get_or order k none ≡ line_at lines at)
  of_line k h =
      let many = many_lines lines in
      let there = Contains-permutation order (numbered_lines lines) _ (IsPermutation-sym (numbered_lines lines) order ascends.each_once) (Contains-get_or order k none h) in
      let found = at_from_Contains (numbered_lines lines) _ there in
      let within : found.0 < length lines = omega (arith, many, found.1) in
      (found.0, within, sym (found.2 none) ∙ get_line lines found.0 within)

  -- later numbers are larger
  larger : (i j : ℕ) → i < j → j < length order → (get_or order i none).number < (get_or order j none).number
  larger i j lt h =
      let many = length-map order (λ (line : Numbered). line.number) in
      let pair = AllPairs-from_increasing (map (λ line. line.number) order) ascends.ascending i j 0 lt (omega (arith, many)) in
      let one = get_or-map (λ (line : Numbered). line.number) order i none 0 (omega arith) in
      let other = get_or-map (λ (line : Numbered). line.number) order j none 0 h in
      omega (arith, pair, one, other)

  rises : (nr : ℕ) → IsNonDecreasingBy (λ line. ordering_index (nat_cmp line.number nr)) order
  rises nr = IsNonDecreasingBy-from_default (λ line. ordering_index (nat_cmp line.number nr)) order none (λ i j le h.
      let up : (get_or order i none).number ≤ (get_or order j none).number = grind (arith, larger i j, λ (same : i ≡ j). ap (λ k. (get_or order k none).number) same) in
      grind (arith, nat_tests))

  -- the line of a number stands where its element of the order says
  at_place : (nr k : ℕ) → k < length order → (get_or order k none).number ≡ nr
      → place_numbered nr lines ≡ Some (get_or order k none).position
  at_place nr k h same =
      let line = of_line k h in
      let at = line.0 in
      let here : (get_or order k none).position ≡ at = ap (λ (line : Numbered). line.position) line.2 in
      let number : (get_or order k none).number ≡ (get_or lines at blank).number = ap (λ (line : Numbered). line.number) line.2 in
      let passes : eqb (get_or lines at blank).number nr ≡ true = grind (arith, nat_tests) in
      place_found (has_number nr) lines at blank line.1 (λ j lt. other j at lt line.1 here) passes ∙ ap Some (sym here)
    where
      other : (j at : ℕ) → j < at → at < length lines → (get_or order k none).position ≡ at → eqb (get_or lines j blank).number nr ≡ false
      other j at lt within here = by (eqb (get_or lines j blank).number nr) refl
        where
          by : (b : Bool) → eqb (get_or lines j blank).number nr ≡ b → b ≡ false
          by false e = refl
          by true e =
              let there = ordered j (omega arith) in
              let m = there.0 in
              let number : (get_or order m none).number ≡ (get_or lines j blank).number = ap (λ (line : Numbered). line.number) there.2 in
              let place : (get_or order m none).position ≡ j = ap (λ (line : Numbered). line.position) there.2 in
              let equal : (get_or lines j blank).number ≡ nr = grind (arith, nat_tests) in
              let one : m < k → ⊥ = λ below. omega (arith, larger m k below h) in
              let two : k < m → ⊥ = λ below. omega (arith, larger k m below there.1) in
              let both : m ≡ k = grind (arith, one, two) in
              let places : (get_or order m none).position ≡ (get_or order k none).position = ap (λ i. (get_or order i none).position) both in
              absurd (omega arith)

  pub found_at : (nr k : ℕ) → k < length order → HoldsAt (λ line. nat_cmp line.number nr ≡ Equal) order k
      → Some (get_or order k none).position ≡ place_numbered nr lines
  found_at nr k h equal = sym (at_place nr k h (ranked _ nr _ (sym (equal none))))

  pub found_nowhere : (nr i : ℕ)
      → (IsNonDecreasingBy (λ line. ordering_index (nat_cmp line.number nr)) order
      → IsPartitionPoint (λ line. nat_cmp line.number nr ≡ Less) (λ line. nat_cmp line.number nr ≡ Greater) order i) →
      None ≡ place_numbered nr lines
  found_nowhere nr i parted = sym (place_nowhere (has_number nr) lines blank differs)
    where
      differs : (j : ℕ) → j < length lines → eqb (get_or lines j blank).number nr ≡ false
      differs j within =
          let there = ordered j within in
          let m = there.0 in
          let number : (get_or order m none).number ≡ (get_or lines j blank).number = ap (λ (line : Numbered). line.number) there.2 in
          let smaller : m < i → (get_or order m none).number < nr = λ lt. ranked _ nr _ (sym ((parted (rises nr)).0 m none (omega arith) lt)) in
          let greater : i ≤ m → nr < (get_or order m none).number = λ le. ranked _ nr _ (sym ((parted (rises nr)).1 m none le there.1)) in
          grind (arith, nat_tests, smaller, greater)

-- what is found stands at the place that is found
pub at_its_place : {X : Type 0} (p : X → Bool) (xs : List X) → find p xs ≡ option_and_then (slice_get xs) (position p xs)
at_its_place p xs = by (ltb (position_or_len p xs) (length xs)) refl
  where
    by : (b : Bool) → ltb (position_or_len p xs) (length xs) ≡ b
        → find p xs ≡ option_and_then (slice_get xs) (cond b (Some (position_or_len p xs)) None)
    by true h = find_at p xs
    by false h = find_at p xs ∙ slice_get_past xs (position_or_len p xs) (grind (arith, nat_tests))

pub rule_found : (calls : List CallLine) (nr place : ℕ) (rules : List (Option Rule)) (d : Option Rule) → rules ≡ map rule_of calls
    → place_numbered nr calls ≡ Some place → get_or rules place d ≡ rule_at calls nr
rule_found calls nr place rules d same at =
    let within : place < length calls = (place_is (has_number nr) calls place at).1 in
    let line : numbered nr calls ≡ Some (get_or calls place blank) = at_its_place (has_number nr) calls ∙ ap (option_and_then (slice_get calls)) at ∙ slice_get-get_or calls place blank within in
    ap (λ (all : List (Option Rule)). get_or all place d) same ∙ get_or-map rule_of calls place blank d within
    ∙ sym (ap (option_and_then rule_of) line)

pub rule_missing : (calls : List CallLine) (nr : ℕ) → place_numbered nr calls ≡ None → None ≡ rule_at calls nr
rule_missing calls nr at =
    let line : numbered nr calls ≡ None = at_its_place (has_number nr) calls ∙ ap (option_and_then (slice_get calls)) at in
    sym (ap (option_and_then rule_of) line)
