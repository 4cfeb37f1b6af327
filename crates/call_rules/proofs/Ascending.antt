-- The numbers of rules ascend where each is below the next.
use Rattle.std.proofs.Common.{◌≡◌, ℕ, zero, suc, ◌+◌, ◌-◌, ◌<◌, ◌≤◌, List, [], ◌∷◌, length, map, get_or, inl, inr, refl, arith}
use Rattle.std.specs.Prelude.{slice_index}
use Rattle.std.specs.List.Sorted.{IsStrictlyIncreasing}
use Rattle.std.proofs.lemmas.Bool.{cases_lt}
use Rattle.std.proofs.lemmas.List.{length-map}
use Rattle.call_rules.specs.declared.rules.CallRule.{CallRule}

abbrev pub numbers : List CallRule → List ℕ
numbers calls = map (λ call. call.number) calls

number_at : (calls : List CallRule) (at : ℕ) (call : CallRule) → at < length calls
    → slice_index (numbers calls) at ≡ (get_or calls at call).number
number_at [] at call below = absurd (omega arith)
number_at (first ∷ calls) zero call below = refl
number_at (first ∷ calls) (suc at) call below = number_at calls at call (omega arith)

module _ (calls : List CallRule) (at : ℕ) (before here : CallRule) where
  less_at : (k : ℕ) → at ≡ k + 1 → at < length calls → (get_or calls (at - 1) before).number < (get_or calls at here).number
      → slice_index (numbers calls) k < slice_index (numbers calls) (k + 1)
  less_at k e below less =
      let place : at - 1 ≡ k = omega arith in
      let first = rw place at (number_at calls (at - 1) before (omega arith)) in
      let second = rw e at (number_at calls at here below) in
      let lt = rw (place, e) at less in
      omega (arith, first, second, lt)

  -- one more place
  pub ascends_more : 1 ≤ at → at < length calls → (get_or calls (at - 1) before).number < (get_or calls at here).number
      → ((k : ℕ) → k + 1 < at → slice_index (numbers calls) k < slice_index (numbers calls) (k + 1)) → (k : ℕ) → k + 1 < at + 1
      → slice_index (numbers calls) k < slice_index (numbers calls) (k + 1)
  ascends_more one below less so_far k lt =
      elim (cases_lt (k + 1) at) [ inl earlier ↦ so_far k earlier | inr now ↦ less_at k (omega arith) below less ]

  -- two rules in a row whose numbers do not ascend
  pub not_ascending : 1 ≤ at → at < length calls → (get_or calls at here).number ≤ (get_or calls (at - 1) before).number
      → IsStrictlyIncreasing (numbers calls) → ⊥
  not_ascending one below less ascending =
      let first = number_at calls (at - 1) before (omega arith) in
      let second = number_at calls at here below in
      let count = length-map calls (λ call. call.number) in
      let place : (at - 1) + 1 ≡ at = omega arith in
      let lt = rw place at (ascending (at - 1) (omega arith)) in
      omega arith
