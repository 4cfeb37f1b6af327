-- The calls of all ABIs: the calls of the native ABI, followed by the calls of the other.
use Rattle.std.proofs.Common.{◌≡◌, ◌<◌, ◌≤◌, ℕ, zero, suc, List, [], ◌∷◌, ◌++◌, ◌-◌, Option, Some, None, length, refl, ap, ◌∙◌, arith}
use Rattle.std.specs.Prelude.{slice_get}
use Rattle.std.specs.Option.{option_map_or, option_to_list}
use Rattle.call_table.specs.Table.{Abi, Table, calls_in, every_call, second_calls}

pub second_are : (second : Option Abi) → second_calls second ≡ option_map_or (λ found. found.calls) (slice_get (option_to_list second) 0) []
second_are None = refl
second_are (Some second) = refl

at_front : {X : Type 0} (front back : List X) (at : ℕ) → at < length front → slice_get (front ++ back) at ≡ slice_get front at
at_front [] back at h = absurd (omega arith)
at_front (x ∷ front) back zero h = refl
at_front (x ∷ front) back (suc at) h = at_front front back at (omega arith)

at_back : {X : Type 0} (front back : List X) (at : ℕ) → length front ≤ at
    → slice_get (front ++ back) at ≡ slice_get back (at - length front)
at_back [] back at h = let n : at ≡ at - 0 = omega arith in ap (slice_get back) n
at_back (x ∷ front) back zero h = absurd (omega arith)
at_back (x ∷ front) back (suc at) h = let n : at - length front ≡ suc at - suc (length front) = omega arith in at_back front back at (omega arith) ∙ ap (slice_get back) n

-- a position finds a call of one of the ABIs
module _ (table : Table) where
  pub front_call : (at : ℕ) → at < length table.calls → slice_get (every_call table) at ≡ slice_get table.calls at
  front_call at h = at_front table.calls (second_calls table.second) at h

  pub back_call : (at : ℕ) → length table.calls ≤ at → slice_get (every_call table) at
      ≡ slice_get (calls_in table 1) (at - length table.calls)
  back_call at h = at_back table.calls (second_calls table.second) at h
      ∙ ap (λ lines. slice_get lines (at - length table.calls)) (second_are table.second)
