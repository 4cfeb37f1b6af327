-- Lists of names.
use Rattle.std.proofs.Common.{◌≡◌, ℕ, zero, suc, ◌+◌, ◌<◌, ◌≤◌, Bool, true, false, cond, List, [], ◌∷◌, ◌++◌, length, filter, get_or, ap}
use Rattle.std.proofs.Common.{◌∙◌, sym, subst, arith, length-append}
use Rattle.std.specs.List.{range_with_len}
use Rattle.std.specs.List.Sorted.{IsStrictlyIncreasing}
use Rattle.std.proofs.lemmas.List.{map-id}
use Rattle.std.proofs.lemmas.List.Elements.{All-filter, filter_passes}
use Rattle.std.proofs.lemmas.List.FromFn.{filter_of_map_range_with_len_more, get_or-range_with_len, length-range_with_len}
use Rattle.std.proofs.lemmas.List.Kept.{IsStrictlyIncreasing-filter}
use Rattle.asked_service.proofs.OfCallTable.AllCalls.{second_are}
use Rattle.asked_service.specs.call_table.Table.{Table, calls_in, every_call, second_calls}
use Rattle.derive_command.specs.trace_profile.Extended.{every_name, is_first_line}
use Rattle.derive_command.specs.trace_profile.Names.{AreNames}

module _ (table : Table) where
  pub count_all : length table.calls + length (calls_in table 1) ≡ length (every_call table)
  count_all = ap (λ lines. length table.calls + length lines) (sym (second_are table.second))
      ∙ sym (length-append table.calls (second_calls table.second))

  range_ascends : (n : ℕ) → IsStrictlyIncreasing (range_with_len 0 n)
  range_ascends n k within =
      let long = length-range_with_len 0 n in
      let here = get_or-range_with_len 0 n k 0 (omega (arith, long)) in
      let next = get_or-range_with_len 0 n (k + 1) 0 (omega (arith, long)) in
      omega (arith, here, next)

  -- all names are names of the table
  pub every_are_names : AreNames table (every_name table)
  every_are_names = record {
    first_lines = filter_passes (is_first_line table) (range_with_len 0 (length (every_call table)));
    in_order = IsStrictlyIncreasing-filter (is_first_line table) (range_with_len 0 (length (every_call table)))
        (range_ascends (length (every_call table)));
  }

  -- and so are some of them
  pub some_are_names : (p : ℕ → Bool) (names : List ℕ) → AreNames table names → AreNames table (filter p names)
  some_are_names p names are = record {
    first_lines = All-filter p (λ place. is_first_line table place ≡ true) names are.first_lines;
    in_order = IsStrictlyIncreasing-filter p names are.in_order;
  }

-- the numbers that pass, with one more
pub range_more : (p : ℕ → Bool) (n : ℕ) → filter p (range_with_len 0 (n + 1)) ≡ filter p (range_with_len 0 n) ++ cond (p n) (n ∷ []) []
range_more p n =
    ap (filter p) (sym (map-id (range_with_len 0 (n + 1))))
    ∙ filter_of_map_range_with_len_more p (λ (k : ℕ). k) 0 n n (omega arith)
    ∙ ap (λ (these : List ℕ). filter p these ++ cond (p n) (n ∷ []) []) (map-id (range_with_len 0 n))

pub not_longer : {X : Type 0} (p : X → Bool) (xs : List X) → length (filter p xs) ≤ length xs
not_longer p [] = omega arith
not_longer p (x ∷ xs) = by (not_longer p xs) (p x) where
  by : length (filter p xs) ≤ length xs → (b : Bool) → length (cond b (x ∷ filter p xs) (filter p xs)) ≤ suc (length xs)
  by rest true = omega (arith, rest)
  by rest false = omega (arith, rest)

-- where one does not pass there are fewer
pub shorter : {X : Type 0} (p : X → Bool) (xs : List X) (i : ℕ) (d : X) → i < length xs → p (get_or xs i d) ≡ false
    → length (filter p xs) < length xs
shorter p [] i d lt fails = absurd (omega arith)
shorter p (x ∷ xs) zero d lt fails =
    let rest = not_longer p xs in
    subst (λ b. length (cond b (x ∷ filter p xs) (filter p xs)) < suc (length xs)) (sym fails) (omega (arith, rest))
shorter p (x ∷ xs) (suc i) d lt fails = by (shorter p xs i d (omega arith) fails) (p x) where
  by : length (filter p xs) < length xs → (b : Bool) → length (cond b (x ∷ filter p xs) (filter p xs)) < suc (length xs)
  by rest true = omega (arith, rest)
  by rest false = omega (arith, rest)
